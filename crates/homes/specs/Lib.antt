pub mod Home
pub mod HomeLaws
pub mod Listed
