pub mod Pages
pub mod PageLaws
