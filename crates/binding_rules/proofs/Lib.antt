pub mod AnswerLaws
pub mod CaseLaws
pub mod Examples
pub mod SameLaws
