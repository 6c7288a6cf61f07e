pub mod Opened
pub mod Opening
pub mod NewStores
