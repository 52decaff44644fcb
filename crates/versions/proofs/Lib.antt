pub mod OneKey
pub mod OneRefusal
