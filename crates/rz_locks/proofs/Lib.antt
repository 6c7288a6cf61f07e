mod Places
mod Apart
mod Ways
