pub mod Marking
pub mod PageWrite
pub mod MarkingLaws
pub mod PageWriteLaws
