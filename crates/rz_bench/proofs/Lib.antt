pub mod Dishonest
