pub mod Text
pub mod Canvas
pub mod Plain
