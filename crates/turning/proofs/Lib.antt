pub mod Members
pub mod WalkLaws
pub mod OneMore
pub mod Part
pub mod Whole
pub mod Turning
