pub mod Running
pub mod Shares
pub mod Rows
pub mod Written
pub mod Found
pub mod Solved
