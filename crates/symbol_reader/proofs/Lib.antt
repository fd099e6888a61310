-- Lemmas of the code: the wrong stuffing bits, the C bits in the work buffer, and the answers of the stages.
mod Stuffing
mod Received
mod Reading
