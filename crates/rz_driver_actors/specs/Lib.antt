pub mod Agendas
pub mod Acts
pub mod Hands
pub mod Stores
