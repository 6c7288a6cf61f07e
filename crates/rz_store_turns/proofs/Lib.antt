pub mod Runs
pub mod Soles
pub mod Took
pub mod Words
pub mod Gone
pub mod Gathered
pub mod Leaving
pub mod Losses
pub mod Tended
pub mod Swapped
mod Counted
