pub mod Nodes
pub mod Kept
pub mod Calls
pub mod Parts
pub mod Building
pub mod Allowed
