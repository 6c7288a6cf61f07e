pub mod Calls
pub mod Restarts
pub mod Lists
pub mod Founds
pub mod CanGoOn
pub mod Returns
pub mod Fences
