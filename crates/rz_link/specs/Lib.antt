pub mod Listed
pub mod Journey
pub mod Fates
