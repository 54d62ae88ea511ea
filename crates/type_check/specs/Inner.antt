pub mod Positions
pub mod Notes
pub mod Clips
