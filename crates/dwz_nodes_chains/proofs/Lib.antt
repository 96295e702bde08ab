mod LinkLemmas
mod NodeLooks
mod PairLemmas
mod SearchLemmas
mod WayLemmas
