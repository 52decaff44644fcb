pub mod Replaying
pub mod ReplayLaws
pub mod ReplayPromised
