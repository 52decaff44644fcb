pub mod LowestFirst
pub mod LowestFirstBy
