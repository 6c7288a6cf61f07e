pub mod Fits
pub mod Rows
pub mod Series
pub mod Store
pub mod Arranged
pub mod Padded
