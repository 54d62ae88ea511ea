pub mod CheckEntries
pub mod CheckPack
pub mod CheckPositions
pub mod CheckRecords
pub mod CheckTables
pub mod Errors
