-- The units that stand after, with names.
use Rattle.std.specs.Prelude.{ℕ, suc, Bool, true, false, List, [], ◌∷◌, ◌++◌, map, ◌==◌, ◌&&◌}
use Rattle.std.specs.List.{filter, list_any}
use Rattle.dwz_def_reading.specs.Documents.{Compile, DwUnit, Entries, Kind, Node, Partial, entries_map, kind_map, node_map}
use Rattle.dwz_def_reading.specs.Trees.{End, Entry}
use Rattle.dwz_def_tops.specs.Spots.{ASpace, ATop, EntryName, FileUnit, Nothing, PartialOf, PartialRoot, Row, tops_of}
use Rattle.dwz_def_plan.specs.Homes.{Common, Home, Local, same_home}
use Rattle.dwz_def_plan.specs.Moves.{Move, image_in}
use Rattle.dwz_def_plan.specs.Plan.{PartialUnit, imports, kept_row}

-- the entries of a row, and what follows them
unfoldable pub tree : (EntryName → EntryName) → Row → Entries EntryName → Entries EntryName
tree f Nothing last = last
tree f (ATop t next) last = Entry (node_map f t.node) (entries_map f t.below) (tree f next last)
tree f (ASpace e inner next) last = Entry (node_map f e) (tree f inner End) (tree f next last)

-- DW_TAG_partial_unit is 3c
abbrev pub partial_root : Move → ℕ → Node EntryName
partial_root m n = record { at = PartialRoot n; tag = 0x3c; attrs = m.roots n }

-- the partial unit with that number
abbrev pub partial_unit : Move → ℕ → DwUnit EntryName
partial_unit m n = record { at = PartialOf n; kind = Partial; root = partial_root m n; below = tree (image_in m) (m.rows n) End }

-- the partial units with that home; the first of all has that number
unfoldable pub partial_units : Move → Home → ℕ → List PartialUnit → List (DwUnit EntryName)
partial_units m h n [] = []
partial_units m h n (part ∷ parts) = elim (same_home part.home h) as (λ _. List (DwUnit EntryName)) [
  | true ↦ partial_unit m n
      ∷ partial_units m h (suc n) parts
  | false ↦ partial_units m h (suc n) parts
]

-- something of a file moves
unfoldable pub changes : Move → List (FileUnit EntryName) → ℕ → Bool
changes m units file = list_any (λ t. t.file == file && m.gone t.number) (tops_of units)

-- in a file of which something moves a compile unit has what is kept, and its imports; all else keeps its entries
abbrev pub kept_below : Move → List (FileUnit EntryName) → Bool → ℕ → Kind EntryName → Entries EntryName → Entries EntryName
kept_below m units true i Compile below = tree (image_in m) (kept_row m.gone units i) (imports i 0 m.parts)
kept_below m units changed i kind below = entries_map (image_in m) below

abbrev pub kept_unit : Move → List (FileUnit EntryName) → ℕ → FileUnit EntryName → DwUnit EntryName
kept_unit m units i u = record {
  at = u.unit.at;
  kind = kind_map (image_in m) u.unit.kind;
  root = node_map (image_in m) u.unit.root;
  below = kept_below m units (changes m units u.file) i u.unit.kind u.unit.below;
}

-- the old units of a file; the first of all units has that number
unfoldable pub kept_units : Move → List (FileUnit EntryName) → ℕ → ℕ → List (FileUnit EntryName) → List (DwUnit EntryName)
kept_units m all file i [] = []
kept_units m all file i (f ∷ units) =
    elim (f.file == file) as (λ _. List (DwUnit EntryName)) [
      | true ↦ kept_unit m all i f ∷ kept_units m all file (suc i) units
      | false ↦ kept_units m all file (suc i) units
    ]

-- the units of the common file
unfoldable pub common_units : Move → List (DwUnit EntryName)
common_units m = partial_units m Common 0 m.parts

-- the units of a file after: its partial units, and its old units
unfoldable pub out_units : Move → List (FileUnit EntryName) → ℕ → List (DwUnit EntryName)
out_units m units file = partial_units m (Local file) 0 m.parts ++ kept_units m units file 0 units

unfoldable pub file_units : Move → List (FileUnit EntryName) → List ℕ → List (DwUnit EntryName)
file_units m units [] = []
file_units m units (file ∷ some) = out_units m units file ++ file_units m units some

-- all units after: those of the common file, and those of each file
abbrev pub all_units : Move → List (FileUnit EntryName) → List ℕ → List (DwUnit EntryName)
all_units m units files = common_units m ++ file_units m units files

-- the units of a file before
unfoldable pub units_of_file : ℕ → List (FileUnit EntryName) → List (DwUnit EntryName)
units_of_file file units = map (λ u. u.unit) (filter (λ u. u.file == file) units)
