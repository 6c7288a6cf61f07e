mod Counts
mod Totals
mod Rosters
pub mod Gathered
mod Pairs
mod Rolls
mod PartsMade
mod MakingPools
mod Taken
