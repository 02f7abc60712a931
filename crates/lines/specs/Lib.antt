pub mod Lines
pub mod LineLaws
