pub mod Reaching
pub mod RoundsMet
pub mod CountedOnce
pub mod Most
pub mod Count
