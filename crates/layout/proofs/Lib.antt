pub mod Kit
pub mod LayoutLaws
pub mod CopyLaws
