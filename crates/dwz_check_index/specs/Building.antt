-- How an index is built, list by list. `first` is the number of a list's first entry.
use Rattle.std.specs.Prelude.{ℕ, suc, ◌+◌, ◌<◌, ◌≤◌, ◌^◌, Bool, true, false, List, [], ◌∷◌, ◌++◌, length, if◌then◌else◌, ◌==◌}
use Rattle.dwz_def_reading.specs.Entries.{RawEntry}
use Rattle.dwz_def_reading.specs.Trees.{End, Entry, Forest, size}
use Rattle.dwz_def_reading.specs.Units.{CompileUnit, PartialUnit, RawKind, RawUnit, TypeUnit, entry_count}
use Rattle.dwz_graph.specs.Spaces.{stored_space}
use Rattle.dwz_check_index.specs.declared.index.CrossStarts.{CrossStarts}
use Rattle.dwz_check_index.specs.declared.index.Stands.{Stands}
use Rattle.dwz_check_index.specs.declared.index.Stands.TheVariants.{InTop, PartialRoot, PartialSpace, UnitRoot, UnitSpace}
use Rattle.dwz_check_index.specs.declared.index.Step.{Step}
use Rattle.dwz_check_index.specs.declared.index.TopEntry.{TopEntry}
use Rattle.dwz_check_index.specs.Index.{CrossIndex}

-- the numbers of so many more tops and roots fit 32 bits
pub record HasRoom (starts : CrossStarts) (count : ℕ) : Type 0 where
  pub tops : starts.top + count < 2 ^ 32
  pub lone : starts.lone + count < 2 ^ 32

-- there are no more tops, and no more roots and spaces, than entries before that number
pub record IsFew (x : CrossIndex) (first : ℕ) : Type 0 where
  pub tops : length x.tops ≤ first
  pub lone : length x.lone ≤ first

abbrev pub step : ℕ → ℕ → Stands → Step
step up index stands = record { up = up; index = index; stands = stands }

-- with the ways up from entries in a top, below the entry `up`; the first has that index there
unfoldable pub with_steps : {E : Type 0} → Stands → (up index first : ℕ) → Forest E → List Step → List Step
with_steps stands up i first End steps = steps
with_steps stands up i first (Entry e children next) steps =
    with_steps stands up (suc i) (first + 1 + size children) next
    (with_steps stands first 0 (first + 1) children (steps ++ step up i stands ∷ []))

abbrev pub top_entry : ℕ → ℕ → ℕ → TopEntry
top_entry entry unit outer = record { entry = entry; unit = unit; outer = outer }

-- with a top, and all below it
abbrev pub with_top : {E : Type 0} → (unit outer first : ℕ) → Forest E → CrossIndex → CrossIndex
with_top unit outer first children x =
    let stands = InTop (x.starts.top + length x.tops) in
    record x {
      steps = with_steps stands first 0 (first + 1) children (x.steps ++ step first 0 stands ∷ []);
      tops = x.tops ++ top_entry first unit outer ∷ [];
    }

-- the entry itself, where it is the root of a compile unit, or a space of it
abbrev pub lone_at : Stands → ℕ → List ℕ
lone_at (UnitRoot n) first = first ∷ []
lone_at (UnitSpace n) first = first ∷ []
lone_at _ first = []

abbrev pub with_lone : Stands → (first : ℕ) → CrossIndex → CrossIndex
with_lone stands first x = record x { lone = x.lone ++ lone_at stands first }

-- with a root or a space
abbrev pub with_outer : Stands → (up index first : ℕ) → CrossIndex → CrossIndex
with_outer stands up i first x = record x { steps = x.steps ++ step up i stands ∷ []; lone = x.lone ++ lone_at stands first }

-- with the entries of a list below the root of a compile or partial unit, or below a space of it, where the test is true of spaces
unfoldable pub with_list : {E : Type 0} → (E → Bool) → (unit : ℕ) → Stands → (up index first : ℕ) → Forest E → CrossIndex → CrossIndex
with_list space unit stands up i first End x = x
with_list space unit stands up i first (Entry e children next) x = elim (space e) as (λ _. CrossIndex) [
  | false ↦ with_list space unit stands up (suc i) (first + 1 + size children) next (with_top unit up first children x)
  | true ↦ with_list space unit stands up (suc i) (first + 1 + size children) next
      (with_list space unit stands first 0 (first + 1) children (with_outer stands up i first x))
]

-- with the root of a compile or partial unit, and what is below it
abbrev pub with_root : (unit : ℕ) → (root space : Stands) → (first : ℕ) → Forest RawEntry → CrossIndex → CrossIndex
with_root unit root space first list x =
    with_list stored_space unit space first 0 (first + 1) list (with_outer root first 0 first x)

-- with where the tops of the next unit begin, and its root and spaces
abbrev pub with_start : CrossIndex → CrossIndex
with_start x =
    record x { units = x.units ++ (record { top = x.starts.top + length x.tops; lone = x.starts.lone + length x.lone }) ∷ [] }

-- with the entries of a unit of that kind, which is the one with the number `whole` among those that aren't partial, if it is none
abbrev pub with_below : (unit whole first : ℕ) → RawKind → Forest RawEntry → CrossIndex → CrossIndex
with_below unit whole first CompileUnit list x = with_root unit (UnitRoot whole) (UnitSpace whole) first list x
with_below unit whole first PartialUnit list x = with_root unit PartialRoot PartialSpace first list x
with_below unit whole first (TypeUnit signature type_offset) list x = with_top unit first first list x

abbrev pub with_unit : (unit whole first : ℕ) → RawUnit → CrossIndex → CrossIndex
with_unit unit whole first u x = with_below unit whole first u.kind u.below (with_start x)

-- the number behind that of a unit of some kind, where only units that aren't partial are counted; a partial unit has kind 3 (DWARF 5, 7.5.1)
abbrev pub whole_after : ℕ → ℕ → ℕ
whole_after kind whole = if kind == 3 then whole else whole + 1

abbrev pub whole_behind : RawKind → ℕ → ℕ
whole_behind PartialUnit whole = whole
whole_behind _ whole = suc whole

-- with those of units, the first of which has that number
unfoldable pub with_units : (unit whole first : ℕ) → List RawUnit → CrossIndex → CrossIndex
with_units unit whole first [] x = x
with_units unit whole first (u ∷ units) x =
    with_units (unit + 1) (whole_behind u.kind whole) (first + entry_count u) units (with_unit unit whole first u x)

abbrev pub nothing_yet : CrossStarts → CrossIndex
nothing_yet starts = record { steps = []; tops = []; lone = []; units = []; starts = starts }
