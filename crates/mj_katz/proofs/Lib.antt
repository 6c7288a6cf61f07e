pub mod Sorted
pub mod Same
pub mod Ghost
pub mod Unseen
