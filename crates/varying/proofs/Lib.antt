pub mod Ways
pub mod Joined
