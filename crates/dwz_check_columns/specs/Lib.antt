pub mod Paths
pub mod Shows
pub mod Drawn
pub mod Puts
pub mod Files
pub use Rattle.dwz_check_sides.specs.Says
