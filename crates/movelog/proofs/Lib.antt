pub mod RowsHold
pub mod CarriedLaws
pub mod ReplayMet
pub mod ReadyKept
