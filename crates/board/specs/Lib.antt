pub mod Given
pub mod Refusals
pub mod Inner
pub mod OnBoard
