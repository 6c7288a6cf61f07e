pub mod Beside
pub mod Calls
pub mod Losses
pub mod Places
pub mod Changes
pub mod Building
