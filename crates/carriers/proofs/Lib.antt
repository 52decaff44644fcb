pub mod SortLaws
pub mod HeldLaws
pub mod Sorting
pub mod Writing
