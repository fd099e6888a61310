pub mod Buffer
pub mod Changes
pub mod Clearing
mod Counting
pub mod Work
