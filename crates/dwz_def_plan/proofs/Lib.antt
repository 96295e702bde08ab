pub mod UserLemmas
pub mod FairLemmas
pub mod HomeLemmas
pub mod ImageLemmas
pub mod StandLemmas
pub mod GainLemmas
pub mod PlanLemmas
pub mod KeptLemmas
pub mod RowParts
pub mod KeptOrder
pub mod KeptTops
pub mod PartOrder
pub mod PartRows
pub mod LawLemmas
pub mod OnePlan
mod MovingRows
