pub mod Puts
pub mod PutWays
pub mod WalkWays
pub mod CallWays
pub mod Examples
