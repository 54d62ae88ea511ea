pub mod Reusable
pub mod Theorem
