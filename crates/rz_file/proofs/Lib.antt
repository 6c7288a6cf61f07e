mod Cuts
mod Lengths
mod Places
