mod Acting
pub mod Firsts
pub mod PoolWorkers
pub mod Told
pub mod Asked
pub mod Completing
