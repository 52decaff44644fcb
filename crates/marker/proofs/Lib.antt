pub mod ScanLaws
pub mod ClaimLaws
pub mod RouteLaws
pub mod StandingLaws
pub mod EntryLaws
pub mod PlanLaws
