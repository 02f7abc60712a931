pub mod Nearest
pub mod NearestLaws
