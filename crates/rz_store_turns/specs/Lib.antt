pub mod Sole
pub mod Runs
pub mod Performed
pub mod Rebuilt
pub mod Joined
pub mod Closed
pub mod Telling
