pub mod SameLaws
pub mod SameOverLaws
