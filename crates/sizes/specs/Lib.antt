pub mod Format
pub mod Meaning
pub mod Inner
