pub mod Balances
mod Turning
