pub mod Writing
pub mod Packing
pub mod Naming
pub mod Running
pub mod Reporting
