pub mod Laws
pub mod Merging
pub mod Runs
