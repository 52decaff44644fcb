pub mod Order
pub mod Leaving
pub mod Sending
