pub mod StandOverLaws
pub mod SupOverLaws
pub mod PairOverLaws
pub mod CheckOverLaws
pub mod FinishedOverLaws
