pub mod Codec
pub mod Laws
