pub mod Own
pub mod Fine
pub mod Runs
