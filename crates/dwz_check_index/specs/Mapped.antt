-- The names of entries where other things stand for their places.
use Rattle.std.specs.Prelude.{◌≡◌, ℕ, ◌+◌, List, map}
use Rattle.dwz_def_reading.specs.Documents.{DwUnit, node_map, unit_map}
use Rattle.dwz_def_check.specs.CrossLabels.{cross_top_map}
use Rattle.dwz_def_check.specs.CrossNames.{CrossName, cross_names_from, cross_tops}
use Rattle.dwz_def_check.specs.CrossNodes.{lone_entries}
use Rattle.dwz_def_check.specs.CrossLists.{numbered_units}
use Rattle.dwz_check_index.specs.declared.index.UnitStart.{UnitStart}
use Rattle.dwz_check_index.specs.Index.{start_of}

abbrev pub placed_name : {P Q : Type 0} → (P → Q) → P × CrossName → Q × CrossName
placed_name f x = (f x.0, x.1)

-- places with their names, tops, and roots and spaces of the same units with other places are the same with these, in the same order; and
-- those of each unit begin with the same numbers
pub record AreMapped {P Q : Type 0} (f : P → Q) (units : List (DwUnit P)) : Type 0 where
  pub names : (n top : ℕ) → cross_names_from n top (map (unit_map f) units) ≡ map (placed_name f) (cross_names_from n top units)
  pub tops : cross_tops (map (unit_map f) units) ≡ map (cross_top_map f) (cross_tops units)
  pub lone : lone_entries (map (unit_map f) units) ≡ map (node_map f) (lone_entries units)
  pub starts : (top root : ℕ) → map start_of (numbered_units top root (map (unit_map f) units)) ≡ map start_of (numbered_units top root units)

abbrev pub MappedLaw : Type 0 → Type 0 → Type 0
MappedLaw P Q = (f : P → Q) (units : List (DwUnit P)) → AreMapped f units

-- ---- roots and spaces behind others

abbrev pub later : ℕ → UnitStart → UnitStart
later k x = record { top = x.top; lone = k + x.lone }

-- where so many roots and spaces come before those of a file, each unit's begin with numbers so much greater
abbrev pub LaterLaw : Type 0 → Type 0
LaterLaw P = (k top root : ℕ) (units : List (DwUnit P))
    → map start_of (numbered_units top (k + root) units) ≡ map (later k) (map start_of (numbered_units top root units))
