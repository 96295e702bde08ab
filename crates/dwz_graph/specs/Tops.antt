-- Which entries are tops, by their numbers.
use Rattle.std.specs.Prelude.{◌≡◌, ℕ, ◌+◌, List, Some, slice_get}
use Rattle.dwz_graph.specs.declared.index.TopEntry.{TopEntry}

-- of these tops, the first of which has that number, one has the number n, and its entry the number i
pub record IsTopAt (first : ℕ) (tops : List TopEntry) (i n : ℕ) : Type 0 where
  pub behind : ℕ
  pub top : TopEntry
  pub found : slice_get tops behind ≡ Some top
  pub number : n ≡ first + behind
  pub entry : top.entry ≡ i
