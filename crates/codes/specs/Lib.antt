pub mod Code
pub mod Draft
pub mod Puts
