-- Lemmas of the code: masks, what a module holds, and a matrix filled and sampled module by module.
pub mod Masks
pub mod Cells
pub mod Walk
pub mod Filled
pub mod Sampled
pub mod Legal
