pub mod ReadyLaws
pub mod KeyLaws
pub mod KeyGivenLaws
pub mod KeyPromised
pub mod CollapseLaws
pub mod CollapsePromised
pub mod MarkLaws
pub mod MarkPromised
