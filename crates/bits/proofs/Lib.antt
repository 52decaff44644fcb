pub mod BitLaws
pub mod SizeLaws
pub mod LowestLaws
pub mod FullLaws
