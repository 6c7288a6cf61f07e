pub mod Made
pub mod Bins
mod Firsts
pub mod Fresh
pub mod Lifts
mod Magic
pub mod Meters
mod Opened
pub mod Refused
mod Slots
mod Based
mod Copied
pub mod OldOpened
mod Pairs
pub mod Carried
mod Copies
pub mod Counts
mod Packed
