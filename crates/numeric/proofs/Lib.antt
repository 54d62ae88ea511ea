pub mod Compared
pub mod Joined
pub mod Subtype
