pub mod Inodes
pub mod Trees
pub mod Calls
pub mod Parts
pub mod Added
pub mod Allowed
