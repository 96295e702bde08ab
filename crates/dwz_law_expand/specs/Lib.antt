pub mod Told
pub mod FormLaws
pub mod ReadLaws
pub mod MadeLaws
pub mod SameLaws
