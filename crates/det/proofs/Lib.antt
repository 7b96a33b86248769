pub mod ApplyLaws
pub mod QuietLaws
pub mod TakeLaws
pub mod HostLaws
pub mod MessageLaws
pub mod KeyLaws
pub mod Noninterference
