pub mod Products
pub mod Backwards
pub mod LastRule
pub mod Rounding
pub mod States
