mod ReadTurns
pub mod NodeAsks
