pub mod Checks
pub mod Votes
