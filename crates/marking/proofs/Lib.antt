pub mod RouteMarked
pub mod PlanMarked
pub mod SheetMarked
