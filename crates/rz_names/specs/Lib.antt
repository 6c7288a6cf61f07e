pub mod Reads
pub mod Entries
pub mod Names
pub mod Cuts
