pub mod Answer
pub mod CrossNames
pub mod CrossLabels
pub mod CrossNodes
pub mod CrossRows
pub mod CrossLists
pub mod CheckLaws
pub mod Texts
