-- Lemmas of the code: a reading code by code, the end mark, and the answer from net bits.
pub mod Reading
pub mod Net
pub mod Answer
