pub mod Ascii
pub mod AsciiLaws
