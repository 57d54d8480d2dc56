pub mod BatchLaws
pub mod ComingLaws
pub mod EndLaws
pub mod FinishLaws
pub mod MoveLaws
pub mod StoreLaws
pub mod TurnLaws
