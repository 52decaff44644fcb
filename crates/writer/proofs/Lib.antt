pub mod Drafting
pub mod Writing
pub mod WritePromised
pub mod AfterReplay
