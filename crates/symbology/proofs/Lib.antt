-- What is proved of the definitions where they stand: by computed tests, Tables 1 and 2 and the papers' worked examples.
pub mod Ranges
pub mod Parameters
pub mod Sides
pub mod Published
pub mod Examples
