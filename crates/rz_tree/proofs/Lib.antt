mod Rows
mod Tables
pub mod Keys
pub mod Counts
pub mod Fronts
pub mod Moves
mod Files
mod Found
pub mod Rules
mod Listings
pub mod Names
pub mod Adds
mod Takes
pub mod Links
pub mod Renamings
pub mod Calls
mod Replacing
mod Replies
pub mod PartPlaces
pub mod Walks
pub mod Lasts
pub mod PartLaws
mod Adding
pub mod Allowed
mod Named
