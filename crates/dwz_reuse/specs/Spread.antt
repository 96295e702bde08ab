-- Which tops of a common file binding spreads to, as looks across files go over them.
use Rattle.std.specs.Prelude.{◌≡◌, ◌↔◌, ◌⊎◌, ℕ, ◌+◌, ◌-◌, ◌≤◌, Bool, true, false, List, [], length, slice_index_or}
use Rattle.dwz_def_reading.specs.Lists.{In}
use Rattle.dwz_def_taken.specs.Beside.{Reused, look_units, own_tops, together}
use Rattle.dwz_def_tops.specs.Alike.{binds_itself, refers_to}
use Rattle.dwz_def_tops.specs.Spots.{Top, tops_of}
use Rattle.dwz_groups.specs.declared.groups.Edge.{Edge}

-- of each whether it is bound without a reference
pub record AreCommonSeeds (r : Reused) (seeds : List Bool) : Type 0 where
  pub len : own_tops r + length seeds ≡ length (tops_of (together r))
  pub each : (t : Top) → In t (tops_of (look_units r)) → own_tops r ≤ t.number
      → slice_index_or seeds (t.number - own_tops r) false ≡ binds_itself (look_units r) t

-- of each that isn't just the tops that it refers into
abbrev pub ShowCommonTargets : Reused → List (List ℕ) → Type 0
ShowCommonTargets r targets =
    (t : Top) → In t (tops_of (look_units r)) → own_tops r ≤ t.number → binds_itself (look_units r) t ≡ false
    → (n : ℕ) → In n (slice_index_or targets t.number []) ↔ (refers_to n t ≡ true)

-- ---- the steps: tops of the common file are counted from the first of them

-- edges were put behind others, from each of these tops to the one that refers into them
abbrev pub PutsSources : ℕ → ℕ → List ℕ → List Edge → List Edge → Type 0
PutsSources first top targets old new = (e : Edge) → In e new ↔ (In e old ⊎ ((e.value ≡ top) × In (first + e.key) targets))

-- under each top those that refer into it
abbrev pub AreSources : ℕ → List (List ℕ) → List Edge → Type 0
AreSources first targets edges = (e : Edge) → In e edges ↔ In (first + e.key) (slice_index_or targets (first + e.value) [])
