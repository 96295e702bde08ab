pub mod Over
pub mod Written
pub mod Laws
pub mod WriteLaws
