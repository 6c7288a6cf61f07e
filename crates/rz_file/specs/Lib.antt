pub mod Ranges
pub mod Machine
pub mod Told
pub mod Writing
pub mod Inside
