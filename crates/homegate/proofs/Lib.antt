pub mod RouteCut
pub mod KeyAsBefore
pub mod PlanAsBefore
pub mod MarkAsBefore
pub mod SheetRunsOn
pub mod MovesAsBefore
