-- Lemmas of the code: stuffing bits stored, and the stages of a write in the work buffer.
mod Stuffing
mod Writing
