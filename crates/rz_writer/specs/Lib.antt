pub mod Machine
pub mod Sheets
