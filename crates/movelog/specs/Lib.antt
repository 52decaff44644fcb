pub mod Log
pub mod CarriedOut
pub mod Replay
pub mod ReplayRight
pub mod ReplayRows
