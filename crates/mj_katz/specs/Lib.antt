pub mod Factor
pub mod Phantom
pub mod Unique
