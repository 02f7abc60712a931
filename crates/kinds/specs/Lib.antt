pub mod Symbol
pub mod Flags
pub mod FlagLaws
pub mod Types
pub mod Rows
pub mod Words
