pub mod Findings
pub mod Lines
pub mod Stores
pub mod Asks
pub mod Scrubs
