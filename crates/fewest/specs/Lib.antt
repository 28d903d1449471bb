pub mod Leasts
pub mod Minima
