pub mod Keys
pub mod Kinds
pub mod Tokens
pub mod Rules
pub mod Holds
pub mod Dealing
pub mod Laws
