pub mod Counts
pub mod Used
pub mod Enrolled
pub mod Forgets
pub mod Marked
pub mod Steps
pub mod States
pub mod Firsts
pub mod Replies
pub mod Released
pub mod TreeStates
mod PartPlaces
mod PartWalks
mod Built
mod Allowed
pub mod Joined
