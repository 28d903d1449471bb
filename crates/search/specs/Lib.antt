pub mod Places
pub mod Force
pub mod Visit
pub mod Decisions
pub mod Start
pub mod Promise
