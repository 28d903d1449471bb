pub mod Picked
pub mod Reduced
