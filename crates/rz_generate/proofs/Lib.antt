pub mod Words
pub mod Files
pub mod Volumes
pub mod Ends
