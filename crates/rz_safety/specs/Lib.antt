pub mod Reads
pub mod Sound
pub mod Kept
pub mod Rebuilt
pub mod Order
pub mod Writes
pub mod Positions
