pub mod Planning
pub mod Runs
