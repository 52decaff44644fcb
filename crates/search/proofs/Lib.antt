pub mod Entering
pub mod Looks
pub mod Trying
pub mod Retiring
pub mod Runs
pub mod CountSteps
pub mod Sends
pub mod Prepares
