pub mod Piled
