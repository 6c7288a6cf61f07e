pub mod Conflicts
pub mod Held
pub mod Places
