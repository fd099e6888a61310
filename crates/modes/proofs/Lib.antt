-- The definitions that the functions open.
pub mod Modes
