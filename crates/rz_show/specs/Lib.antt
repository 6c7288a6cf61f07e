pub mod Shown
pub mod RunText
pub mod Words
pub mod Outcomes
pub mod Ends
pub mod Opened
pub mod Known
pub mod Text
