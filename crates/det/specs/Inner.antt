pub mod Message
pub mod Data
pub mod Apply
pub mod Take
