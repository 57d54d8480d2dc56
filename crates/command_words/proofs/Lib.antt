pub mod ValueLaws
pub mod DraftLaws
pub mod RoleLaws
pub mod SoundLaws
