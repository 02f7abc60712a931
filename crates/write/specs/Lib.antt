pub mod Write
pub mod WriteLaws
