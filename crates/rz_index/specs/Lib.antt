pub mod Files
pub mod Indexed
pub mod Packing
pub mod Spares
pub mod Standing
