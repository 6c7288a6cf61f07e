pub mod Changes
pub mod Fresh
pub mod Halves
pub mod Opened
pub mod FramedRows
pub mod Keepings
pub mod Listings
pub mod Makings
pub mod Openings
pub mod PartRows
pub mod Refused
pub mod Reopened
mod Exact
mod WholeTexts
mod Wholes
