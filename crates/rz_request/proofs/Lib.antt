pub mod Found
pub mod Many
pub mod Stopped
mod Nodes
pub mod Judged
