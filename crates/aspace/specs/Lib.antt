pub mod Space
pub mod SpaceLaws
pub mod Places
