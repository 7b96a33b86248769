pub mod WriteLaws
pub mod JoinedLaws
pub mod TextLaws
pub mod PlainLaws
pub mod CanvasLaws
