mod Counts
mod Sequences
mod Cuts
mod Amongs
mod Scripts
mod Stops
mod Refused
mod Behind
pub mod Anew
pub mod Fates
