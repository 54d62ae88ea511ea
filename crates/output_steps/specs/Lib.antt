pub mod ListOut
pub mod Outputs
pub mod Inner
