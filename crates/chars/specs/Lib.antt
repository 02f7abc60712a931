pub mod Chars
pub mod WalkLaws
pub mod GoodLaws
