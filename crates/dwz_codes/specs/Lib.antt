pub mod Rows
pub mod Forms
pub mod Operators
pub mod Shapes
pub mod ListKinds
pub mod Tags
pub mod Attributes
pub mod Classes
