pub mod Positions
pub mod Records
pub mod Telling
