pub mod Format
pub mod Section
pub mod SectionLaws
pub mod Symbol
pub mod SymbolLaws
pub mod Relocation
