pub mod Runs
pub mod Pieces
pub mod Exact
