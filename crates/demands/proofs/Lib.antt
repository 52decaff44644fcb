pub mod KeyMet
pub mod NamedMet
