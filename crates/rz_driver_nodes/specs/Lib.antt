pub mod Servers
pub mod Nodes
pub mod Meters
pub mod Images
pub mod Administration
pub mod Asked
pub mod Fetches
