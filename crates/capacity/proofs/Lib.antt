pub mod Groups
pub mod Bounds
pub mod Depth
