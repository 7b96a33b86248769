pub mod DecideLaws
pub mod WriteLaws
pub mod ObeyLaws
