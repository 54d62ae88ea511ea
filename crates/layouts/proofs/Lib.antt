pub mod BitWays
pub mod LayoutExamples
pub mod LayoutLaws
pub mod LayoutLists
pub mod LayoutStores
pub mod LayoutWays
