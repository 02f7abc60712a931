pub mod Stops
pub mod StopLaws
pub mod Names
pub mod NameLaws
