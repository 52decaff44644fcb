pub mod Ends
pub mod GoesAlone
pub mod NeverOne
