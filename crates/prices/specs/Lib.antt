pub mod Cells
pub mod Offers
pub mod Amounts
pub mod Kept
