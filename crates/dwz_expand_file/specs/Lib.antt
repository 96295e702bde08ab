pub mod Giving
pub mod Without
pub mod Answers
pub mod Laws
