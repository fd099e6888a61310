-- The definitions of the calls, in the order in which they are read.
pub mod Answers
pub mod Refusals
pub mod Tests
pub mod Sizes
pub mod Write
pub mod Read
pub mod Mending
pub mod Promises
