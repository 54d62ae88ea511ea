pub mod Kept
pub mod DeriveLaws
pub mod NoteLaws
pub mod PairLaws
pub mod ProvideLaws
pub mod ResourceLaws
pub mod ResourceParts
pub mod ResourceWalk
