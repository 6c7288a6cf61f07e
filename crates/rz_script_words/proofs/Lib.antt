pub mod Pieces
pub mod Numbers
pub mod Numerals
pub mod Left
