-- What is known of the names of a file where its tops are told, and what is told of its values.
use Rattle.std.specs.Prelude.{◌≡◌, ℕ, ◌+◌, ◌-◌, List, [], ◌∷◌, ◌++◌, length, drop, map}
use Rattle.std.specs.List.{flat_map}
use Rattle.dwz_def_reading.specs.Documents.{Attr, Node, Value, attr_map, node_map, value_map}
use Rattle.dwz_def_reading.specs.Entries.{RawAttr}
use Rattle.dwz_def_reading.specs.Lists.{Each}
use Rattle.dwz_def_reading.specs.Meanings.{MeaningContext}
use Rattle.dwz_def_reading.specs.Units.{RawUnit}
use Rattle.dwz_def_tops.specs.Spots.{EntryName}
use Rattle.dwz_graph.specs.Named.{attrs_refs, value_refs}
use Rattle.dwz_graph.specs.Rows.{AreAttrsMeant, node_refs}
use Rattle.dwz_label_entries.specs.declared.source.Source.{Source}
use Rattle.dwz_label_entries.specs.Sources.{raw_of}
use Rattle.dwz_label_marks.specs.Marks.{Mark, node_marks, usual, value_marks}
use Rattle.dwz_label_marks.specs.Told.{Adds}
use Rattle.dwz_label_words.specs.Known.{FileNames}
use Rattle.dwz_unit.specs.Declarations.{AreOf}
use Rattle.dwz_unit.specs.Rows.{EntryRow, rows_of}

-- the names are of the texts, tables and declarations of that file
pub record AreNamesOf (x : Source) (f : FileNames) : Type 0 where
  pub strs : f.strs ≡ x.sections.now.strs.bytes.now
  pub tables : f.tables ≡ x.tables.now
  pub declared : AreOf (rows_of (raw_of x)) f.declarations

-- the value was told, and behind what it names others are named
pub record TellsValue (name : ℕ → EntryName) (v : Value ℕ) (names : List (List ℕ)) (refs others old new : List ℕ) : Type 0 where
  pub marks : Adds names (value_marks (value_map name v)) old new
  pub ends : others ≡ drop (length (value_refs v)) refs

-- its value names an entry only as a reference
abbrev pub IsUsual : Attr ℕ → Type 0
IsUsual a = length a.value.refs ≡ usual a.value.plain

-- what attributes say, one behind the other
abbrev pub attrs_marks : (ℕ → EntryName) → List (Attr ℕ) → List Mark
attrs_marks name attrs = flat_map (λ a. value_marks a.value) (map (attr_map name) attrs)

-- some of the attributes were told, and those of the values behind are left
pub record TellsFirst (raw : List RawUnit) (s : MeaningContext ℕ) (values : List RawAttr) (name : ℕ → EntryName) (attrs : List (Attr ℕ))
    (names : List (List ℕ)) (refs others old new : List ℕ) : Type 0 where
  pub told : List (Attr ℕ)
  pub left : List (Attr ℕ)
  pub parts : attrs ≡ told ++ left
  pub rest : AreAttrsMeant raw s others values left
  pub usual_are : Each IsUsual left
  pub marks : Adds names (attrs_marks name told) old new
  pub ends : drop (length (attrs_refs left)) others ≡ drop (length (attrs_refs attrs)) refs

-- attributes were told
pub record TellsAttrs (name : ℕ → EntryName) (attrs : List (Attr ℕ)) (names : List (List ℕ)) (refs others old new : List ℕ) : Type 0 where
  pub marks : Adds names (attrs_marks name attrs) old new
  pub ends : others ≡ drop (length (attrs_refs attrs)) refs

-- an entry was told, that has so many entries below it
pub record TellsEntry (name : ℕ → EntryName) (below : ℕ) (d : Node ℕ) (names : List (List ℕ)) (refs others old new : List ℕ) : Type 0 where
  pub marks : Adds names (node_marks below (node_map name d)) old new
  pub ends : others ≡ drop (length (node_refs d)) refs

abbrev pub AreUsual : Node ℕ → Type 0
AreUsual d = Each IsUsual d.attrs

-- what the entries of rows say, the first of which has that number: below an entry stand those up to its end
unfoldable pub rows_marks : (ℕ → EntryName) → ℕ → List EntryRow → List (Node ℕ) → List Mark
rows_marks name i (row ∷ rows) (d ∷ ds) = node_marks (row.end - i - 1) (node_map name d) ++ rows_marks name (i + 1) rows ds
rows_marks name i _ _ = []
