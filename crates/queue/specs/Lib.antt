pub mod WordSets
pub mod Follows
pub mod Queue
pub mod Offers
pub mod Written
