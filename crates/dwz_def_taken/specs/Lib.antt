pub mod Beside
pub mod Takes
pub mod Over
pub mod Laws
pub mod MoveLaws
