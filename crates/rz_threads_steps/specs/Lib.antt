pub mod Turned
pub mod Adding
pub mod Saying
pub mod Acted
pub mod Opening
