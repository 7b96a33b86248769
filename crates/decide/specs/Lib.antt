pub mod Decision
pub mod Writing
pub mod Inner
