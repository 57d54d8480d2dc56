pub mod GateLaws
pub mod KeepLaws
