pub mod Vocabulary
pub mod Computing
