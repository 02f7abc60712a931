pub mod Survey
pub mod Surveying
pub mod SurveyLaws
pub mod TableLaws
pub mod Acceptance
pub mod Unloaded
