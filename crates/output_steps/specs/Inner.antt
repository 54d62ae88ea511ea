pub mod Given
pub mod ListOut
pub mod Stands
pub mod Summary
