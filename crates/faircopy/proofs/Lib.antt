pub mod RowsHold
pub mod Entries
pub mod BytesSaid
pub mod CopyRows
pub mod Words
pub mod OwnBytes
pub mod CopyMet
pub mod WriteMet
