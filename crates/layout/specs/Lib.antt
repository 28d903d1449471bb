pub mod Meant
pub mod Kept
pub mod MeantLemmas
pub mod Masks
pub mod Cells
pub mod Places
