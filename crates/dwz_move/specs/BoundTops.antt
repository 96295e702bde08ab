-- Which tops bind themselves, and what each refers to.
use Rattle.std.specs.Prelude.{◌≡◌, ◌↔◌, ℕ, Bool, true, false, List, [], length, slice_index_or}
use Rattle.dwz_def_reading.specs.Lists.{In}
use Rattle.dwz_def_tops.specs.Alike.{binds_itself, refers_to}
use Rattle.dwz_def_tops.specs.Spots.{EntryName, FileUnit, Top, tops_of}

-- a flag for each top: whether it is bound without a reference
pub record AreSeeds (units : List (FileUnit EntryName)) (seeds : List Bool) : Type 0 where
  pub len : length seeds ≡ length (tops_of units)
  pub each : (t : Top) → In t (tops_of units) → slice_index_or seeds t.number false ≡ binds_itself units t

-- of each top just the tops that it refers into; of one that binds itself any
pub record ShowTargets (units : List (FileUnit EntryName)) (targets : List (List ℕ)) : Type 0 where
  pub len : length targets ≡ length (tops_of units)
  pub each : (t : Top) → In t (tops_of units) → binds_itself units t ≡ false → (n : ℕ)
      → In n (slice_index_or targets t.number []) ↔ (refers_to n t ≡ true)
