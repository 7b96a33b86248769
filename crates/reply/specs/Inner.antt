pub mod Reply
pub mod Single
