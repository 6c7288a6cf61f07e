pub mod Seating
pub mod Returned
pub mod Arranged
