pub mod Keys
pub mod Echo
