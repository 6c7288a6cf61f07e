pub mod VersionLaws
pub mod RecordLaws
