pub mod Fetched
pub mod Machine
pub mod Inside
pub mod Told
