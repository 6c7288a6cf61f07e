pub mod Earlier
pub mod Calls
pub mod Found
pub mod Laws
pub mod Fences
pub mod Returns
