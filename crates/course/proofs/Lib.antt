pub mod Bayed
pub mod Products
pub mod Steps
pub mod Bridge
pub mod Starts
pub mod Answered
