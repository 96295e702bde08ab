pub mod Names
pub mod Says
pub mod Units
pub mod SideLaws
