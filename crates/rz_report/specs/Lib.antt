pub mod Summary
pub mod Output
pub mod Scrubs
pub mod Telling
pub mod Told
pub mod Replays
pub mod Clear
