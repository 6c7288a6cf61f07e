pub mod Machine
pub mod Inside
pub mod Kinds
pub mod Copies
