pub mod Given
pub mod Refusals
pub mod Operation
