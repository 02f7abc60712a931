pub mod Sections
pub mod Externs
pub mod TableLaws
