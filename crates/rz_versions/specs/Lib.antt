pub mod Sides
pub mod Two
