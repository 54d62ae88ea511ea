pub mod Types
pub mod TypeWords
