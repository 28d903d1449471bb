pub mod Made
pub mod Neighbours
