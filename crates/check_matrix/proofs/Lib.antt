mod Turning
mod Blocks
