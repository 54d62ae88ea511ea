pub mod Populate
pub mod Inner
