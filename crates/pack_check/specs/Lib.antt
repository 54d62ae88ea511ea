pub mod Errors
pub mod Inner
