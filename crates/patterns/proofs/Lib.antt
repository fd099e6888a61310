-- Lemmas of the code: the search for a near core, and a module's colour from it.
pub mod Nearness
