pub mod Decision
pub mod Writing
