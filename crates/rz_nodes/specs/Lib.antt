pub mod Opened
pub mod Formatted
pub mod Arrived
