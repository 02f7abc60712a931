pub mod Relocations
pub mod RelocationLaws
