pub mod PlanLemmas
pub mod RowLemmas
pub mod SearchLemmas
pub mod SpaceLemmas
pub mod TopLemmas
pub mod LabelLemmas
pub mod BareLemmas
pub mod MarkedLemmas
