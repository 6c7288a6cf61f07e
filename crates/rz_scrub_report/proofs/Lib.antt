pub mod Verdicts
pub mod Whole
pub mod Going
pub mod Gathered
pub mod Walked
pub mod Given
