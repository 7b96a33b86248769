pub mod WriteLaws
pub mod ReplyLaws
pub mod SingleLaws
pub mod ModifiedLaws
