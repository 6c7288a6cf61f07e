pub mod Clear
pub mod Disks
pub mod Drivers
pub mod Migrations
pub mod Replays
pub mod Untouched
