pub mod Marks
pub mod Rows
pub mod Shown
pub mod Marked
