-- Lemmas of the code: lengths of streams, the pieces of a run and of a stream, and the end mark.
pub mod Lengths
pub mod Runs
pub mod Net
