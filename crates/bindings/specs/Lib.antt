pub mod Rules
pub mod Format
pub mod Answers
