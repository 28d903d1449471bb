pub mod Sheet
pub mod Changes
pub mod Follows
pub mod Dropped
pub mod Racks
