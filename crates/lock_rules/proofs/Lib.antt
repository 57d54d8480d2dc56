mod CountedLaws
mod GuardLaws
mod HeldLaws
pub mod OpenLaws
mod ShadedLaws
mod StateLaws
