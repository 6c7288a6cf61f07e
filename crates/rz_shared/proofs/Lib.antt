pub mod Pairs
pub mod Readiness
pub mod Returning
pub mod NewLockedNodes
pub mod Ordered
pub mod Sending
