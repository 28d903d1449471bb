pub mod Asked
pub mod Kept
