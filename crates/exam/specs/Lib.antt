pub mod Answers
pub mod Parsed
pub mod Operations
