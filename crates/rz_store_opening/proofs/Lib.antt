mod Openings
mod Taken
mod OpenedStores
mod InOrder
mod Joinings
mod EmptyDisks
mod Outcomes
