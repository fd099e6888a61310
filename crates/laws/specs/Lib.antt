-- Definitions that the laws share with contracts below the calls.
pub mod Sampling
pub mod Gf2
pub mod Elimination
