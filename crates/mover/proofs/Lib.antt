pub mod ZoneLaws
pub mod OneMove
pub mod Callers
