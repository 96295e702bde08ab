pub mod HeaderLemmas
pub mod NameLemmas
pub mod FaultLemmas
pub mod ReadLemmas
pub mod LayoutLemmas
pub mod OutputLemmas
pub mod RebuildLemmas
pub mod CalledLemmas
