pub mod Counted
pub mod Seeking
pub mod Streams
pub mod Begun
pub mod Anew
pub mod Asked
pub mod Completing
