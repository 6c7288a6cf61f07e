pub mod Images
pub mod Meter
pub mod Stored
pub mod Scheduled
pub mod UnderFuse
pub mod Rotting
pub mod OverFile
