pub mod Words
pub mod Cells
pub mod Attributes
pub mod Fields
pub mod FieldList
pub mod Scans
pub mod Classes
pub mod Inner
