mod Logs
pub mod Behind
mod Lasting
mod LockedExportLaws
mod Events
mod Disks
mod LockedNodes
mod Replies
mod LockedExports
mod Meters
mod Picks
mod Texts
mod Journaled
mod Occupants
mod Swaps
mod Told
