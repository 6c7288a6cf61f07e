mod OpenLemmas
pub mod Rowwise
pub mod NodeLemmas
pub mod FormatLemmas
