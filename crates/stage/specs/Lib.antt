pub mod Meaning
pub mod Stage
pub mod Inner
