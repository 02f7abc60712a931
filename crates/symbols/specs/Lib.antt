pub mod Symbol
pub mod SymbolLaws
