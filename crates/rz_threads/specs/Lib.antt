pub mod Orders
pub mod Beside
pub mod Left
pub mod PlayResult
