pub mod Symbols
pub mod SymbolLaws
