pub mod Ways
pub mod Once
