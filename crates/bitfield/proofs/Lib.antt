-- Lemmas of the code: the bits of a number, read and stored one at a time.
pub mod Digits
