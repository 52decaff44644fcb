pub mod Sizes
pub mod Pages
pub mod KeyPages
