pub mod WayLaws
pub mod OverLaws
pub mod LinkedLaws
pub mod GrowLaws
pub mod ReachedLaws
