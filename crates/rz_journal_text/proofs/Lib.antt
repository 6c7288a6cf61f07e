pub mod CallLaws
pub mod EntryLaws
pub mod FieldLaws
pub mod PartLaws
pub mod Slashes
pub mod Steps
