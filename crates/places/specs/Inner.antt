pub mod Marks
pub mod Begins
pub mod PlacesOf
