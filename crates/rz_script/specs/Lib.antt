pub mod Grammar
pub mod Given
pub mod Lines
pub mod Scripts
pub mod Shared
pub mod Weights
pub mod Spelling
