pub mod Blocks
pub mod Write
pub mod Read
