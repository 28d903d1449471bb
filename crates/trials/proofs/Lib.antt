pub mod Laws
pub mod Closes
pub mod Racked
