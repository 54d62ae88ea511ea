pub mod GivenLaws
pub mod JudgeLaws
pub mod RunLaws
pub mod CheckLaws
