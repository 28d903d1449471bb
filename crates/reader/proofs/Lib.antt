pub mod Chains
pub mod Fronts
pub mod Noted
pub mod Tables
pub mod Spans
pub mod Walked
