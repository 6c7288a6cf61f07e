pub mod Counting
pub mod Fitting
pub mod OnlyOne
pub mod Choosing
pub mod Judging
pub mod Slotted
pub mod Masks
