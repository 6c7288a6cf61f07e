pub mod Doings
pub mod Agendas
pub mod Workings
