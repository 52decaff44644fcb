pub mod Home
pub mod Ways
