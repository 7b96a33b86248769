pub mod Text
pub mod Canvas
pub mod Inner
