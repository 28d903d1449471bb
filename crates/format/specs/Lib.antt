pub mod Pieces
pub mod House
pub mod Steps
