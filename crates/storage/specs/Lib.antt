pub mod Storage
pub mod Writing
