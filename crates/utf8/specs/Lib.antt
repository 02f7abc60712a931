pub mod Utf8
pub mod First
pub mod FirstLaws
pub mod CharLaws
pub mod TableLaws
pub mod Encoding
pub mod EncodingLaws
