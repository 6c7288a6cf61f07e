pub mod Grammar
pub mod Given
pub mod Left
pub mod Limits
pub mod Shared
pub mod Words
pub mod Numerals
