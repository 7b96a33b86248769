pub mod Cases
pub mod CountLaws
pub mod FindLaws
pub mod RecordLaws
pub mod ScanLaws
