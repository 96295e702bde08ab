-- How an index is built, list by list.
use Rattle.std.specs.Prelude.{◌≡◌, ℕ, suc, ◌+◌, ◌<◌, ◌≤◌, ◌^◌, true, false, List, [], ◌∷◌, ◌++◌, drop, length}
use Rattle.dwz_def_reading.specs.Entries.{RawEntry}
use Rattle.dwz_def_reading.specs.Trees.{End, Entry, Forest, size}
use Rattle.dwz_def_reading.specs.Units.{CompileUnit, PartialUnit, RawKind, RawUnit, TypeUnit, entry_count}
use Rattle.dwz_unit.specs.Rows.{EntryRow, rows_below, rows_of}
use Rattle.dwz_graph.specs.declared.index.Starts.{Starts}
use Rattle.dwz_graph.specs.declared.index.Step.{Step}
use Rattle.dwz_graph.specs.Index.{Index}
use Rattle.dwz_graph.specs.Spaces.{stored_space}
use Rattle.dwz_graph.specs.Steps.{space_entry, step, steps_below, top_entry}

-- ---- the rows of a sibling list

-- the entries from one number to before another are those of the list
pub record IsList (raw : List RawUnit) (first end : ℕ) (list : Forest RawEntry) : Type 0 where
  pub unit : ℕ
  pub depth : ℕ
  pub after : List EntryRow
  pub rows : drop first (rows_of raw) ≡ rows_below list unit (record { before = first; depth = depth }) ++ after
  pub ends : end ≡ first + size list

-- they are those of some list
pub record HasList (raw : List RawUnit) (first end : ℕ) : Type 0 where
  pub list : Forest RawEntry
  pub is : IsList raw first end list

-- the numbers of so many more units, tops and spaces fit 32 bits
pub record HasRoom (starts : Starts) (count : ℕ) : Type 0 where
  pub units : starts.unit + count < 2 ^ 32
  pub tops : starts.top + count < 2 ^ 32
  pub spaces : starts.space + count < 2 ^ 32

-- ---- what is built

-- there are no more tops and no more spaces than entries before that number
pub record IsFew (x : Index) (first : ℕ) : Type 0 where
  pub tops : length x.tops ≤ first
  pub spaces : length x.spaces ≤ first

-- with a top, and all below it
abbrev pub with_top : (unit inner first : ℕ) → Forest RawEntry → Index → Index
with_top unit inner first children x =
    let top = suc (x.starts.top + length x.tops) in
    record {
      steps = (x.steps ++ step first 0 top ∷ []) ++ steps_below top first 0 (first + 1) children;
      tops = x.tops ++ top_entry first unit inner ∷ [];
      spaces = x.spaces;
      starts = x.starts;
    }

-- one more than the number of the next space
abbrev pub space_behind : Index → ℕ
space_behind x = suc (x.starts.space + length x.spaces)

-- with a space
abbrev pub with_space : (up index outer first : ℕ) → Index → Index
with_space up i outer first x =
    record { steps = x.steps ++ step up i 0 ∷ []; tops = x.tops; spaces = x.spaces ++ space_entry first outer ∷ []; starts = x.starts }

-- with the entries of a list below the root of a compile unit, or below a space of it
unfoldable pub with_list : (unit inner up index first : ℕ) → Forest RawEntry → Index → Index
with_list unit inner up i first End x = x
with_list unit inner up i first (Entry e children next) x = elim (stored_space e) as (λ _. Index) [
  | false ↦ with_list unit inner up (suc i) (first + 1 + size children) next (with_top unit inner first children x)
  | true ↦ with_list unit inner up (suc i) (first + 1 + size children) next
      (with_list unit (space_behind x) first 0 (first + 1) children (with_space up i inner first x))
]

abbrev pub with_steps : List Step → Index → Index
with_steps steps x = record { steps = x.steps ++ steps; tops = x.tops; spaces = x.spaces; starts = x.starts }

-- with the entries below a root
abbrev pub with_below : (unit first : ℕ) → RawKind → Forest RawEntry → Index → Index
with_below unit first CompileUnit list x = with_list unit 0 first 0 (first + 1) list x
with_below unit first (TypeUnit signature type_offset) list x = with_steps (steps_below 0 first 0 (first + 1) list) x
with_below unit first PartialUnit list x = with_steps (steps_below 0 first 0 (first + 1) list) x

-- with those of a unit
abbrev pub with_unit : (unit first : ℕ) → RawUnit → Index → Index
with_unit unit first u x = with_below unit first u.kind u.below (with_steps (step first 0 0 ∷ []) x)

-- with those of units, the first of which has that number
unfoldable pub with_units : (unit first : ℕ) → List RawUnit → Index → Index
with_units unit first [] x = x
with_units unit first (u ∷ units) x = with_units (unit + 1) (first + entry_count u) units (with_unit unit first u x)

abbrev pub nothing_yet : Starts → Index
nothing_yet starts = record { steps = []; tops = []; spaces = []; starts = starts }
