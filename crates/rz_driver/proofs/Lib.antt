mod WorldLemmas
mod TurnLemmas
mod FreshLengths
mod LengthLemmas
mod TextLemmas
mod ReadyLemmas
mod OrderLemmas
mod TakeLemmas
mod ActorOrders
mod MadeLemmas
mod NodeOrders
mod DriverMeters
mod DriverCoherence
mod NewCoherence
pub mod FetchLemmas
mod ExportWords
mod KeptCalls
mod Cuts
mod JournalLemmas
mod LineOrders
pub mod JournalEndings
mod BehindJournal
mod Closed
mod AgainLemmas
