pub mod FoundLaws
pub mod BytesLaws
pub mod JudgeLaws
pub mod ScriptPlays
