pub mod Plan
pub mod Planning
pub mod PlanLaws
