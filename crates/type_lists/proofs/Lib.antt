pub mod Numbered
pub mod Encode
pub mod Restore
pub mod Examples
