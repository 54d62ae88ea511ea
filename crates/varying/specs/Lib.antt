pub mod Rules
pub mod Format
