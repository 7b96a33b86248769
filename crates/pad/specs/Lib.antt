pub mod Parameters
pub mod Line
pub mod Message
pub mod Response
pub mod Host
