pub mod Records
pub mod Misfits
pub mod Verdicts
pub mod Choice
pub mod Inside
