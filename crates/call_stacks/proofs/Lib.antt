mod EnterLaws
pub mod PlainLaws
mod RingLaws
mod StackLaws
