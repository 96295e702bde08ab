-- Which numbers fit the types of a pair.
use Rattle.std.specs.Prelude.{◌≡◌, ◌<◌, ◌≤◌, ◌^◌, true}
use Rattle.dwz_model.specs.declared.place.Pair.{Pair}
use Rattle.dwz_bytes.specs.Spelling.{fits_i64}

-- the numbers of a pair are those of their types
pub record IsInRange (pair : Pair) : Type 0 where
  pub name : pair.name ≤ 0xffff
  pub form : pair.form < 2 ^ 64
  pub constant : fits_i64 pair.constant ≡ true
