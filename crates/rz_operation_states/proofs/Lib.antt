mod RebuildTurns
mod RangeTurns
mod Heads
