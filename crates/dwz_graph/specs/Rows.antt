-- Rows of entries in step with the entries of a document that they mean, and with the numbers of the entries that these name.
use Rattle.std.specs.Prelude.{◌≡◌, ℕ, ◌+◌, ◌<◌, List, [], ◌∷◌, ◌++◌, length, map, Ok, Some, drop, slice_get}
use Rattle.std.specs.List.{flat_map}
use Rattle.dwz_def_reading.specs.Entries.{RawAttr}
use Rattle.dwz_def_reading.specs.Trees.{End, Entry}
use Rattle.dwz_def_reading.specs.Units.{RawUnit, entries_in}
use Rattle.dwz_def_reading.specs.Documents.{Attr, Entries, Node, Value}
use Rattle.dwz_def_reading.specs.Meanings.{MeaningContext, without_siblings}
use Rattle.dwz_def_reading.specs.Meant.{attr_with, attrs_meaning, meaning, node_meaning}
use Rattle.dwz_graph_resolve.specs.Named.{attrs_refs, value_refs}
use Rattle.dwz_graph_resolve.specs.Resolved.{place_at, places}
use Rattle.dwz_def_tops.specs.Spots.{EntryName}
use Rattle.dwz_unit.specs.Rows.{EntryRow, rows_of}

-- ---- entries in preorder

-- those of a sibling list with all below them
unfoldable pub nodes : {P : Type 0} → Entries P → List (Node P)
nodes End = []
nodes (Entry d children next) = d ∷ (nodes children ++ nodes next)

-- what an entry names, in order; the operands of a location list aren't among that
abbrev pub node_refs : {P : Type 0} → Node P → List P
node_refs d = attrs_refs d.attrs

abbrev pub nodes_refs : {P : Type 0} → List (Node P) → List P
nodes_refs ds = flat_map node_refs ds

-- ---- numbers of entries that are named

-- the numbers begin with those of the entries at these places
abbrev pub AreTargets : List RawUnit → List ℕ → List ℕ → Type 0
AreTargets raw numbers [] = Unit {0}
AreTargets raw [] (p ∷ places) = ⊥
AreTargets raw (i ∷ numbers) (p ∷ places) = (i < entries_in raw) × (place_at raw i ≡ p) × AreTargets raw numbers places

-- where places have names: those of the entries, by their numbers
abbrev pub row_names : (ℕ → EntryName) → List RawUnit → List EntryName
row_names name raw = map name (places raw)

-- the numbers begin with those of entries that have these names
abbrev pub AreNamed : List EntryName → List ℕ → List EntryName → Type 0
AreNamed names numbers [] = Unit {0}
AreNamed names [] (s ∷ spots) = ⊥
AreNamed names (i ∷ numbers) (s ∷ spots) = (slice_get names i ≡ Some s) × AreNamed names numbers spots

-- ---- what is known: of the values of an entry that are left, of an entry, of entries one behind the other

-- These values mean the attributes, and the numbers begin with those of what these name.
pub record AreAttrsMeant (raw : List RawUnit) (s : MeaningContext ℕ) (numbers : List ℕ) (values : List RawAttr) (attrs : List (Attr ℕ)) :
    Type
    0 where
  pub means : attrs_meaning s (without_siblings values) ≡ Ok attrs
  pub targets : AreTargets raw numbers (attrs_refs attrs)

-- The entry with number i means this one, and the numbers begin with those of what it names.
pub record IsEntryMeant (raw : List RawUnit) (s : MeaningContext ℕ) (i : ℕ) (numbers : List ℕ) (row : EntryRow) (d : Node ℕ) : Type 0 where
  pub found : slice_get (rows_of raw) i ≡ Some row
  pub means : node_meaning s row.entry ≡ Ok d
  pub targets : AreTargets raw numbers (node_refs d)

-- each row means its entry
abbrev pub RowsMean : MeaningContext ℕ → List EntryRow → List (Node ℕ) → Type 0
RowsMean s [] [] = Unit {0}
RowsMean s (row ∷ rows) (d ∷ ds) = (node_meaning s row.entry ≡ Ok d) × RowsMean s rows ds
RowsMean s _ _ = ⊥

-- The entries from number i to before `end` mean these, and the numbers begin with those of what these name.
pub record AreRowsMeant (raw : List RawUnit) (s : MeaningContext ℕ) (i end : ℕ) (numbers : List ℕ) (rows after : List EntryRow)
    (ds : List (Node ℕ)) : Type 0 where
  pub found : drop i (rows_of raw) ≡ rows ++ after
  pub count : i + length rows ≡ end
  pub means : RowsMean s rows ds
  pub targets : AreTargets raw numbers (nodes_refs ds)

-- ---- and what one step leaves

-- The first value means an attribute, and the numbers begin with those of what it names. Behind these are those of the values behind it.
pub record NextAttr (raw : List RawUnit) (s : MeaningContext ℕ) (numbers : List ℕ) (a : RawAttr) (values : List RawAttr)
    (attrs : List (Attr ℕ)) : Type 0 where
  pub value : Value ℕ
  pub left : List (Attr ℕ)
  pub means : meaning s a ≡ Ok value
  pub parts : attrs ≡ attr_with a value ∷ left
  pub targets : AreTargets raw numbers (value_refs value)
  pub rest : AreAttrsMeant raw s (drop (length (value_refs value)) numbers) values left

-- The same of the first row and those behind it.
pub record NextRow (raw : List RawUnit) (s : MeaningContext ℕ) (i end : ℕ) (numbers : List ℕ) (rows after : List EntryRow)
    (ds : List (Node ℕ)) : Type 0 where
  pub row : EntryRow
  pub others : List EntryRow
  pub d : Node ℕ
  pub left : List (Node ℕ)
  pub rows_are : rows ≡ row ∷ others
  pub ds_are : ds ≡ d ∷ left
  pub entry : IsEntryMeant raw s i numbers row d
  pub rest : AreRowsMeant raw s (i + 1) end (drop (length (node_refs d)) numbers) others after left
