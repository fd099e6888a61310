mod Rows
mod Cleared
mod Eliminated
