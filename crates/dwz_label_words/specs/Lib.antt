pub mod Plain
pub mod Told
pub mod Usual
pub mod Known
pub mod Shapes
