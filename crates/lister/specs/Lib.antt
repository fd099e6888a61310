pub mod Decimal
pub mod Numeral
pub mod Scanning
pub mod Listing
