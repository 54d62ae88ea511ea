pub mod Meaning
pub mod Format
pub mod Encodable
pub mod Inner
