pub mod Bytes
pub mod Beside
pub mod Comes
pub mod Taken
pub mod Whole
pub mod Refused
pub mod Left
