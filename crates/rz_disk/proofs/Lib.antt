pub mod Images
pub mod Passes
pub mod FileCalls
mod Marks
mod Patches
