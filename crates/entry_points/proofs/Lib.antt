pub mod ReadsChoice
pub mod ReadsNames
