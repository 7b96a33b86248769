pub mod Records
pub mod Scans
pub mod Starts
