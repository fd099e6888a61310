pub mod Columns
mod Rows
pub mod Placing
pub mod Solving
pub mod Gathering
