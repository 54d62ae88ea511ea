pub mod CheckCases
pub mod CheckHeads
pub mod CheckNames
pub mod CheckOutputs
pub mod CheckPairs
pub mod CheckSteps
pub mod CheckVaryings
pub mod CheckWalks
