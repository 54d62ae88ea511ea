pub mod Inputs
pub mod Workgroup
