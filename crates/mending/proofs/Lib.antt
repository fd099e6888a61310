mod Turning
mod Counts
mod Run
