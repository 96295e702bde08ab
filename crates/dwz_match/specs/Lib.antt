pub mod Partial
pub mod Kin
pub mod Units
pub mod MatchRows
pub mod ClassLaws
pub mod Bare
pub mod Parts
pub mod RowLaws
