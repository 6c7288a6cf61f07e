pub mod Rows
pub mod Fits
pub mod EventWords
pub mod MeterLemmas
pub mod CoherenceLemmas
pub mod MessageCoherence
mod OrderCoherence
pub mod AskedLaws
pub mod FetchLemmas
