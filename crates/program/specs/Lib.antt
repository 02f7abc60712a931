pub mod Output
pub mod Within
pub mod Holding
pub mod OutputLaws
