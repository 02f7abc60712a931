pub mod Target
pub mod Table
