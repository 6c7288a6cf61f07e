pub mod InHand
pub mod Laws
pub mod Turns
pub mod Acting
pub mod ActingLaws
