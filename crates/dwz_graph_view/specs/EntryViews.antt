-- Entries by their places, and what is shown of one.
use Rattle.std.specs.Prelude.{ℕ, suc, ◌==◌, List, [], ◌∷◌, ◌++◌, length, take, Option, slice_get}
use Rattle.std.specs.List.{find}
use Rattle.std.specs.Option.{option_and_then}
use Rattle.dwz_model.specs.declared.place.Place.{Place}
use Rattle.dwz_def_reading.specs.Documents.{Doc, DwUnit, Entries, Node}
use Rattle.dwz_def_reading.specs.Trees.{End, Entry}
use Rattle.dwz_graph_view.specs.declared.entry_views.EntryView.{EntryView}
use Rattle.dwz_graph_view.specs.UnitViews.{all_units}

-- an entry where it stands: the number of its unit among those of all files, the entry by itself, its children with all below them, and
-- its siblings behind it
pub record EntrySpot : Type 0 where
  pub unit : ℕ
  pub node : Node ℕ
  pub below : Entries ℕ
  pub behind : Entries ℕ

-- the entries of a sibling list of that unit, each before those below it (2.3)
unfoldable pub spots_below : ℕ → Entries ℕ → List EntrySpot
spots_below unit End = []
spots_below unit (Entry e below behind) =
    record { unit = unit; node = e; below = below; behind = behind } ∷ (spots_below unit below ++ spots_below unit behind)

-- those of units, the first of which has that number: a root has no siblings
unfoldable pub spots_from : ℕ → List (DwUnit ℕ) → List EntrySpot
spots_from unit [] = []
spots_from unit (u ∷ units) = spots_below unit (Entry u.root u.below End) ++ spots_from (suc unit) units

-- how many units the files before that one have
abbrev pub units_before : List (Doc ℕ) → ℕ → ℕ
units_before docs file = length (all_units (take file docs))

-- the entries of the file with a number
abbrev pub spots_in : List (Doc ℕ) → ℕ → Doc ℕ → List EntrySpot
spots_in docs file doc = spots_from (units_before docs file) doc.units

-- the entry that begins at an offset, the only one, since offsets ascend
abbrev pub begins_at : ℕ → List EntrySpot → Option EntrySpot
begins_at offset spots = find (λ e. e.node.at == offset) spots

-- the entry that begins at a place
abbrev pub entry_at : List (Doc ℕ) → Place → Option EntrySpot
entry_at docs p = option_and_then (λ doc. begins_at p.offset (spots_in docs p.file doc)) (slice_get docs p.file)

-- where the first of siblings begins; 0 where there is none, and no entry begins there
abbrev pub first_offset : Entries ℕ → ℕ
first_offset End = 0
first_offset (Entry e below behind) = e.at

-- what is shown of an entry: its tag, the number of its unit, how many attributes it has, its first child, and its next sibling
abbrev pub entry_view : EntrySpot → EntryView
entry_view e = record {
  tag = e.node.tag;
  unit = e.unit;
  attrs = length e.node.attrs;
  child = first_offset e.below;
  next = first_offset e.behind;
}
