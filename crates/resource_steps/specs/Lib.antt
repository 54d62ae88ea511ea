pub mod Meaning
pub mod Resources
pub mod Kept
pub mod Inner
