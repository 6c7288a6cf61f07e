pub mod Row
pub mod Parts
pub mod Cells
pub mod Files
pub mod Sorting
pub mod Standing
pub mod Rotations
pub mod Kept
