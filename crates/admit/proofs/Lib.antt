pub mod RefuseLaws
pub mod SettleLaws
