pub mod InsertLaws
pub mod OutStores
pub mod OutWords
pub mod StageExamples
pub mod StageLists
pub mod StageWays
