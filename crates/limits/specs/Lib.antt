pub mod Limits
pub mod Records
