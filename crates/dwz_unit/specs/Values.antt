-- The values of an entry, one after the other.
use Rattle.std.specs.Prelude.{◌≡◌, ℕ, List, Ok}
use Rattle.dwz_bytes.specs.Input.{Input}
use Rattle.dwz_def_reading.specs.Entries.{RawAttr, attrs_at}
use Rattle.dwz_def_reading.specs.Values.{written_rows}
use Rattle.dwz_model.specs.declared.place.Pair.{Pair}

-- from a place on, the values of these names and forms are those of an entry
pub record Reads (entry : ℕ) (pairs : List Pair) (at : Input) (attrs : List RawAttr) : Type 0 where
  pub behind : Input
  pub read : attrs_at written_rows entry pairs at ≡ Ok (attrs, behind)
