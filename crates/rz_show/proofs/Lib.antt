pub mod Looks
pub mod Apart
pub mod RunLines
pub mod Tables
pub mod Lines
