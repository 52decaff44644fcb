pub mod Order
pub mod Listing
