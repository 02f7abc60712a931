pub mod Questions
pub mod QuestionLaws
pub mod Routine
pub mod RoutineLaws
