pub mod MarkLaws
pub mod PlaceLaws
pub mod PlaceWays
pub mod Records
pub mod Ways
pub mod Words
