pub mod Machine
pub mod Address
pub mod Page
