pub mod Known
pub mod ResourceNumbers
pub mod JudgementNumbers
pub mod Calls
pub mod Kept
pub mod Demand1
pub mod Answers
pub mod Declared
