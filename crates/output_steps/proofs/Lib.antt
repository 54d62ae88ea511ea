pub mod ListOutLaws
pub mod OutputLaws
