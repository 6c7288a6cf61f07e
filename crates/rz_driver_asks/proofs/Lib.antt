mod Drawn
mod Changes
pub mod Keeping
mod OpenLemmas
