pub mod Layout
pub mod LayoutLaws
