pub mod ListLaws
pub mod EditLaws
pub mod MarkLaws
