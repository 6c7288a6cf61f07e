mod Hands
pub mod Fetching
mod Records
mod Others
mod Marks
mod Takes
mod Sent
mod Turns
mod Fresh
pub mod Texts
pub mod Sayings
pub mod Starts
mod Acts
mod Replies
