pub mod Polynomials
pub mod Line
