-- What is known of a file and a unit where labels are written from its rows, and what is told of its values.
use Rattle.std.specs.Prelude.{◌≡◌, ℕ, ◌+◌, ◌-◌, ◌≤◌, List, [], ◌∷◌, ◌++◌, length, map, Option, drop}
use Rattle.std.specs.List.{flat_map}
use Rattle.dwz_def_tops.specs.Spots.{EntryName}
use Rattle.dwz_label_entries.specs.declared.source.Source.{Source}
use Rattle.dwz_label_entries.specs.Targets.{KnowsNames}
use Rattle.dwz_def_reading.specs.Entries.{RawAttr}
use Rattle.dwz_def_reading.specs.Units.{RawUnit, entries_in}
use Rattle.dwz_graph.specs.Rows.{AreAttrsMeant, node_refs}
use Rattle.dwz_label.specs.Labels.{attr_label, each_counted, node_label, value_label}
use Rattle.dwz_def_reading.specs.Documents.{Attr, Node, Value, attr_map, node_map, value_map}
use Rattle.dwz_def_reading.specs.Meanings.{Around, MeaningContext}
use Rattle.dwz_graph.specs.Here.{Here}
use Rattle.dwz_graph.specs.Named.{attrs_refs, value_refs}
use Rattle.dwz_graph.specs.Parts.{HasLine}
use Rattle.dwz_graph.specs.Resolved.{AreEntries, IsHere, around, scope_in}
use Rattle.dwz_unit.specs.Rows.{EntryRow, units_of}

abbrev pub raw_of : Source → List RawUnit
raw_of x = units_of x.units.now

-- what surrounds its units
abbrev pub around_at : Source → Around ℕ
around_at x = around x.sections.now (raw_of x)

-- what values of a unit stand in
abbrev pub scope_at : Source → RawUnit → MeaningContext ℕ
scope_at x u = scope_in x.sections.now (raw_of x) u

-- each number that is kept is that of an entry
pub record IsReady (x : Source) (h : Here) : Type 0 where
  pub here : h.end ≤ entries_in (raw_of x)
  pub steps : length x.index.now.steps ≡ entries_in (raw_of x)
  pub refs : AreEntries (raw_of x) x.refs.now

-- what is kept is that of the unit, and the index shows the names of places
pub record KnowsUnit (x : Source) (h : Here) (table : Option ℕ) (u : RawUnit) (name : ℕ → EntryName) : Type 0 where
  pub here : IsHere (raw_of x) u h
  pub names : KnowsNames (raw_of x) name x.index.now
  pub line : HasLine (around_at x) u x.tables.now table

-- the value was written, and behind what it names others are named
pub record TellsValue (name : ℕ → EntryName) (v : Value ℕ) (refs others old new : List ℕ) : Type 0 where
  pub bytes : new ≡ old ++ value_label (value_map name v)
  pub ends : others ≡ drop (length (value_refs v)) refs

-- what attributes say, one behind the other
abbrev pub attrs_label : (ℕ → EntryName) → List (Attr ℕ) → List ℕ
attrs_label name attrs = flat_map attr_label (map (attr_map name) attrs)

-- one value was written, and those behind it are left
pub record TellsAttr (raw : List RawUnit) (s : MeaningContext ℕ) (values : List RawAttr) (name : ℕ → EntryName) (attrs : List (Attr ℕ))
    (refs others old new : List ℕ) : Type 0 where
  pub left : List (Attr ℕ)
  pub rest : AreAttrsMeant raw s others values left
  pub bytes : new ++ attrs_label name left ≡ old ++ attrs_label name attrs
  pub ends : drop (length (attrs_refs left)) others ≡ drop (length (attrs_refs attrs)) refs

-- attributes were written, behind their number
pub record TellsAttrs (name : ℕ → EntryName) (attrs : List (Attr ℕ)) (refs others old new : List ℕ) : Type 0 where
  pub bytes : new ≡ old ++ each_counted attr_label (map (attr_map name) attrs)
  pub ends : others ≡ drop (length (attrs_refs attrs)) refs

-- an entry was written, that has so many entries below it
pub record TellsEntry (name : ℕ → EntryName) (below : ℕ) (d : Node ℕ) (refs others old new : List ℕ) : Type 0 where
  pub bytes : new ≡ old ++ node_label below (node_map name d)
  pub ends : others ≡ drop (length (node_refs d)) refs

-- what the entries of rows say, the first of which has that number: below an entry stand those up to its end
unfoldable pub rows_label : (ℕ → EntryName) → ℕ → List EntryRow → List (Node ℕ) → List ℕ
rows_label name i (row ∷ rows) (d ∷ ds) = node_label (row.end - i - 1) (node_map name d) ++ rows_label name (i + 1) rows ds
rows_label name i _ _ = []
