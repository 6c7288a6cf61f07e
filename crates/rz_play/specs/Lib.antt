pub mod World
pub mod Turns
pub mod Free
pub mod Lines
pub mod Stops
pub mod Played
pub mod Faults
