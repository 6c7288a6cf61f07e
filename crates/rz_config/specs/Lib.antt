pub mod Sizes
pub mod Plain
pub mod Described
pub mod Answers
