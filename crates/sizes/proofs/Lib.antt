pub mod SizeExamples
pub mod SizeLaws
pub mod SizeLists
pub mod SizeStores
pub mod SizeWays
