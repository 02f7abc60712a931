pub mod Fixes
pub mod Inside
pub mod Patch
