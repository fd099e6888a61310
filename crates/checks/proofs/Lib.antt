pub mod Checks
mod Votes
