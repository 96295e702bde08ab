-- Tops that references go into, and the tops of a unit.
use Rattle.std.specs.Prelude.{◌≡◌, ℕ, ◌+◌, ◌++◌, ◌==◌, Bool, drop, slice_index, List, [], ◌∷◌, Option, Some, None, ◌&&◌, nat_lt, not}
use Rattle.std.specs.Prelude.{if◌then◌else◌}
use Rattle.std.specs.List.{list_any}
use Rattle.dwz_def_tops.specs.Alike.{binding_forms, is_number, unit_in}
use Rattle.dwz_def_tops.specs.Spots.{EntryName, Top}
use Rattle.dwz_graph.specs.Rows.{node_refs}
use Rattle.dwz_groups.specs.declared.groups.Edge.{Edge}
use Rattle.dwz_graph.specs.Names.{top_in}
use Rattle.dwz_def_reading.specs.Documents.{Node}
use Rattle.dwz_def_reading.specs.Classes.{Class}
use Rattle.dwz_def_reading.specs.Rows.{has}
use Rattle.dwz_model.specs.declared.place.Pair.{Pair}
use Rattle.dwz_move.specs.Values.{is_entry}
pub use Rattle.dwz_unit.specs.Named.{is_expression}
use Rattle.dwz_move.specs.declared.bind.TopRange.{TopRange}

-- the tops begin with those of the entries at these places, by their names
abbrev pub AreInto : (ℕ → EntryName) → List (Option ℕ) → List ℕ → Type 0
AreInto name into [] = Unit {0}
AreInto name [] (p ∷ places) = ⊥
AreInto name (t ∷ into) (p ∷ places) = (t ≡ top_in (name p)) × AreInto name into places

-- the tops of the unit with a number are those of the range
abbrev pub HasTops : List Top → ℕ → TopRange → Type 0
HasTops tops unit own = (t : ℕ) → is_number (unit_in tops t) unit ≡ (not (nat_lt t own.first) && nat_lt t own.end)

-- how many entries a value of the class names, if it doesn't bind
abbrev pub count_of : Class → ℕ
count_of class = if is_entry class then 1 else 0

-- The entries, the first of which has that number, name what is in tops: those of each begin at its start.
abbrev pub EachInto : (ℕ → EntryName) → List (Option ℕ) → List ℕ → ℕ → List (Node ℕ) → Type 0
EachInto name into starts i [] = Unit {0}
EachInto name into starts i (d ∷ ds) = AreInto name (drop (slice_index starts i) into) (node_refs d) × EachInto name into starts (i + 1) ds

-- ---- references into tops

abbrev pub some_of : Option ℕ → List ℕ
some_of None = []
some_of (Some t) = t ∷ []

-- those that are there
abbrev pub somes : List (Option ℕ) → List ℕ
somes [] = []
somes (t ∷ into) = some_of t ++ somes into

-- a top refers into another
abbrev pub target_of : ℕ → ℕ → Edge
target_of top into = record { key = top; value = into }

-- ---- of declarations (DWARF 5, 7.5.3)

-- each value of that name and form binds; DW_AT_sibling (1) doesn't count
abbrev pub pair_binds : Pair → Bool
pair_binds pair = not (pair.name == 0x01) && has pair.form binding_forms

abbrev pub pairs_bind : List Pair → Bool
pairs_bind pairs = list_any pair_binds pairs
