pub mod Fields
pub mod Record
pub mod Refused
pub mod Slot
