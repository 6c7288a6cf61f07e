pub mod Meaning
pub mod Machine
pub mod Records
pub mod Answers
pub mod Told
pub mod Inside
