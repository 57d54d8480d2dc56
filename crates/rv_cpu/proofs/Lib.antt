pub mod BatchLaws
pub mod ToldLaws
pub mod ShownLaws
pub mod CpuLaws
pub mod MidwayLaws
pub mod PlainLaws
pub mod IdleLaws
pub mod FedLaws
