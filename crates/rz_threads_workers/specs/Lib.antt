pub mod Gathered
pub mod Moves
pub mod WorkerPool
