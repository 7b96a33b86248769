pub mod HeldLaws
pub mod CodeLaws
pub mod FaultLaws
