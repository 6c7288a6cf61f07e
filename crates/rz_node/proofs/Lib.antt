mod Leaving
pub mod AfterChange
pub mod Changes
pub mod Clears
mod Counts
pub mod Drops
pub mod Found
pub mod Keeps
pub mod Places
pub mod Puts
pub mod Read
pub mod Ready
pub mod Listed
pub mod HeldOnDisk
pub mod Spent
pub mod Starts
pub mod Stores
pub mod Tied
pub mod Turns
pub mod Views
pub mod Waits
pub mod Ways
pub mod Firsts
pub mod Maps
