pub mod AnswerLaws
pub mod ExactLaws
pub mod FileLaws
pub mod LogSizes
pub mod ReleaseLaws
pub mod ReportLaws
