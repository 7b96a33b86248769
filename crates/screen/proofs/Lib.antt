pub mod WordLaws
pub mod CellLaws
pub mod FieldLaws
pub mod FieldListLaws
pub mod FieldListOrder
pub mod TestLaws
pub mod SkipLaws
pub mod OpenAfter
