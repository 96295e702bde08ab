pub mod PairLaws
pub mod BesideLaws
pub mod CheckLaws
pub mod ReadLaws
pub mod SupLaws
pub mod StandLaws
pub mod StoredLaws
pub mod FinishedLaws
