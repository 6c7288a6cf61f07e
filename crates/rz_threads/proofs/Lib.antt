pub mod Done
pub mod Each
pub mod Working
pub mod Sending
pub mod Gathering
pub mod Leaving
pub mod PoolWorkers
pub mod Tallies
