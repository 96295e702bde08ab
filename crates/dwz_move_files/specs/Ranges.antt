-- The units of tops, by the tops' numbers.
use Rattle.std.specs.Prelude.{◌≡◌, ◌≢◌, ℕ, suc, ◌+◌, ◌<◌, ◌≤◌, List, Some, length, slice_get}
use Rattle.dwz_def_tops.specs.Spots.{Top}
use Rattle.dwz_graph.specs.declared.index.TopEntry.{TopEntry}

-- Of all tops these are those of a file, from that number on. Tops are numbered, and in order of units, and no other file has these units.
pub record HaveUnits (all : List Top) (first : ℕ) (tops : List TopEntry) : Type 0 where
  pub numbered : (n : ℕ) (t : Top) → slice_get all n ≡ Some t → t.number ≡ n
  pub rise : (m n : ℕ) (s t : Top) → m ≤ n → slice_get all m ≡ Some s → slice_get all n ≡ Some t → s.unit ≤ t.unit
  pub within : first + length tops ≤ length all
  pub there : (k : ℕ) (x : TopEntry) (t : Top) → slice_get tops k ≡ Some x → slice_get all (first + k) ≡ Some t → t.unit ≡ x.unit
  pub before : (n k : ℕ) (s : Top) (x : TopEntry) → n < first → slice_get all n ≡ Some s → slice_get tops k ≡ Some x → s.unit ≢ x.unit
  pub behind : (n k : ℕ) (s : Top) (x : TopEntry) → first + length tops ≤ n → slice_get all n ≡ Some s → slice_get tops k ≡ Some x
      → s.unit ≢ x.unit

-- the i-th of these tops, x, is of the unit of the one before it
abbrev pub Continues : List TopEntry → ℕ → TopEntry → Type 0
Continues tops i x = (j : ℕ) × (y : TopEntry) × (suc j ≡ i) × (slice_get tops j ≡ Some y) × (y.unit ≡ x.unit)
