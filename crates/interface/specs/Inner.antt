pub mod Parts
pub mod Reads
pub mod Listed
