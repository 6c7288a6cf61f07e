mod AgendaLemmas
mod MessageLemmas
pub mod ActCoherence
pub mod ExportEvents
pub mod StoreLemmas
