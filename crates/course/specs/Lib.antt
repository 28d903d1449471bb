pub mod Bounds
pub mod Masks
pub mod Views
pub mod Links
pub mod Written
pub mod Replies
