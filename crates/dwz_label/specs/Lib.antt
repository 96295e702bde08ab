pub mod Keyed
pub mod Labels
pub mod LabelLaws
pub mod Nodes
pub mod Pieces
pub mod Shown
pub mod Slots
pub mod Stretches
