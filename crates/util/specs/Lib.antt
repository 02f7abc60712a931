pub mod Pick
pub mod Prefix
pub mod Fold
pub mod Align
