pub mod Paths
pub mod Rows
pub mod Pairs
pub mod Keys
pub mod Nested
pub mod Volumes
pub mod ReadsBack
