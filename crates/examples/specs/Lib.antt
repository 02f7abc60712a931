pub mod Records
pub mod NamesObject
pub mod FieldLaws
pub mod NameLaws
pub mod ExternLaws
pub mod CheckLaws
pub mod SurveyLaws
