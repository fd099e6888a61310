-- Lemmas of the code: the columns of Table 12.
pub mod Columns
