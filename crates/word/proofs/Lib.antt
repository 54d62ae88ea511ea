pub mod Tests
pub mod Truth
pub mod Lists
pub mod Sums
pub mod Parse
pub mod ParseReads
pub mod Rests
pub mod Both
