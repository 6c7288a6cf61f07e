pub mod Metered
pub mod Records
pub mod Images
pub mod Laws
