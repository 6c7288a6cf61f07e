pub mod Candidates
pub mod Rooms
