mod Encoding
mod Shuffling
mod Filling
