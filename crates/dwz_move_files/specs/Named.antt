-- Which tops operands name, over all files.
use Rattle.std.specs.Prelude.{◌≡◌, ℕ, ◌<◌, Bool, false, List, length, slice_index_or}
use Rattle.dwz_def_tops.specs.Alike.{is_named}
use Rattle.dwz_def_tops.specs.Spots.{EntryName, FileUnit, tops_of}
use Rattle.dwz_def_plan.specs.Plan.{is_pinned}
use Rattle.dwz_move.specs.declared.marks.Named.{Named}

-- there is a flag for each top, which says whether the test holds of its number
pub record AreFlags (units : List (FileUnit EntryName)) (test : ℕ → Bool) (flags : List Bool) : Type 0 where
  pub len : length flags ≡ length (tops_of units)
  pub each : (n : ℕ) → n < length (tops_of units) → slice_index_or flags n false ≡ test n

-- An operand of an expression, or of a location list, anywhere names an entry of the top; and one that is a ULEB128 number does.
pub record AreNamed (units : List (FileUnit EntryName)) (named : Named) : Type 0 where
  pub any : AreFlags units (is_named units) named.by_any.items
  pub uleb : AreFlags units (is_pinned units) named.by_uleb.items
