pub mod Added
pub mod ShownEvents
pub mod Acts
pub mod Sayings
pub mod Messages
