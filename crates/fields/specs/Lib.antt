pub mod Rebuilt
pub mod Inner
