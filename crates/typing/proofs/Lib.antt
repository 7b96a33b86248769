pub mod Kit
pub mod Worked
pub mod EchoLaws
pub mod OutLaws
pub mod KeyLaws
