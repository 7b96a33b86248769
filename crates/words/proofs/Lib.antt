pub mod Laws
pub mod StoredLaws
