pub mod Bytes
pub mod Name
pub mod NameLaws
pub mod OrderLaws
