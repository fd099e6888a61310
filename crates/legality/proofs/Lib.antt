pub mod Verdicts
mod Refusals
