pub mod Places
pub mod Sorted
pub mod PathOrder
pub mod Names
pub mod Children
pub mod Blocks
pub mod Moves
pub mod Renames
pub mod Small
mod Behind
