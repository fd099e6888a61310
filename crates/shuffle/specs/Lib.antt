pub mod Items
pub mod Numbers
