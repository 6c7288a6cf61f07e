pub mod Clear
pub mod Done
pub mod Handed
pub mod Runs
