pub mod Fields
pub mod Exact
pub mod Accepted
pub mod Stepped
pub mod Faults
pub mod Refused
