pub mod Store
pub mod Causes
pub mod Outcomes
pub mod Names
pub mod Opened
pub mod Nodes
