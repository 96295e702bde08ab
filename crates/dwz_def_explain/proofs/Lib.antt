pub mod WhatLemmas
pub mod FoundLemmas
pub mod ChainLemmas
pub mod LeadLemmas
pub mod LeastLemmas
pub mod VerdictLemmas
pub mod PlaceLemmas
pub mod WorkedRows
