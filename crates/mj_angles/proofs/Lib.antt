pub mod Sums
pub mod Line
pub mod Projections
pub mod Order
pub mod Peel
pub mod Numbers
