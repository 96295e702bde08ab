pub mod Verdicts
pub mod Found
pub mod Shown
pub mod Reached
pub mod Leading
pub mod Answers
