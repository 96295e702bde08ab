pub mod Pages
pub mod Views
pub mod Events
pub mod Shown
pub mod Limits
pub mod Laws
pub mod Stretches
