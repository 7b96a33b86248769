pub mod Noninterference
pub mod Inner
