pub mod Versions
pub mod Records
pub mod States
pub mod Answers
pub mod Afterwards
pub mod NodeEvents
