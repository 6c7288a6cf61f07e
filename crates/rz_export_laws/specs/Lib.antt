pub mod WholeTree
pub mod Whole
