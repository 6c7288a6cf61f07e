pub mod Ranges
pub mod Files
pub mod Rebuild
pub mod Work
pub mod Ask
pub mod Steps
pub mod Turns
