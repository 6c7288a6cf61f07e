pub mod Enrolled
pub mod Reopened
pub mod Stands
pub mod Journals
