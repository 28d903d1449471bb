pub mod Places
pub mod Finds
pub mod Indexed
