pub mod Keys
pub mod Good
pub mod Plain
pub mod Sums
