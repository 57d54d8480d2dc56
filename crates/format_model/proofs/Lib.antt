pub mod ScriptSteps
pub mod ScriptParts
pub mod ScriptLines
pub mod ScriptPrinted
pub mod ImageSteps
pub mod ImageLaws
