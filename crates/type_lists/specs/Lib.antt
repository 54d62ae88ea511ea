pub mod Meaning
pub mod Rules
pub mod Format
pub mod Encodable
