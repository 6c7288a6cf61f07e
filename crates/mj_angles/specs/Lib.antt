pub mod Xor
pub mod Projection
pub mod Layout
