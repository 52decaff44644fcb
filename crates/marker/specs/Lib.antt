pub mod Faults
pub mod Marked
