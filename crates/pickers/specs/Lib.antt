pub mod Questions
pub mod Orders
pub mod Gathered
pub mod Perms
