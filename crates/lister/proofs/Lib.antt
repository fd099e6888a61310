pub mod Scanning
pub mod Listing
pub mod Decimal
pub mod Text
