pub mod Given
pub mod Refusals
pub mod Drafting
pub mod Operation
pub mod AfterReplay
