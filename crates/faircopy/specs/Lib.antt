pub mod BoardBytes
pub mod Write
pub mod FairCopy
pub mod WriteRight
pub mod WriteRows
