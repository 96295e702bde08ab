-- Moves: which tops leave their units, what stands for each top, and the partial units. The plan is a move.
use Rattle.std.specs.Prelude.{ℕ, ℤ, zero, suc, Bool, true, false, List, [], ◌∷◌, pos, Option, Some, None}
use Rattle.std.specs.List.{list_any}
use Rattle.dwz_def_reading.specs.Documents.{Attr, File, Plain, Sec, entries_map, first_named, node_map, only}
use Rattle.dwz_def_tops.specs.Seen.{Seen, see, seen}
use Rattle.dwz_def_tops.specs.Alike.{any_attr, any_in}
use Rattle.dwz_def_tops.specs.Spots.{EntryName, FileUnit, Nothing, Row, Top}
use Rattle.dwz_def_plan.specs.Homes.{Home, Local, Rule, moves}
use Rattle.dwz_def_plan.specs.Plan.{PartialUnit, image_by, part_row, partials, stand_in}

-- which tops leave their units; the top that stands for a top after; the partial units with their homes and users, and by their
-- numbers what stands in each, and the attributes of its root
pub record Move : Type 0 where
  pub gone : ℕ → Bool
  pub stand : ℕ → ℕ
  pub parts : List PartialUnit
  pub rows : ℕ → Row
  pub roots : ℕ → List (Attr EntryName)

-- the name after of what has a name before
abbrev pub image_in : Move → EntryName → EntryName
image_in m = image_by m.stand

-- what is seen of a top once its places are replaced
abbrev pub seen_top : (EntryName → EntryName) → Top → List (Seen EntryName)
seen_top f t = see (node_map f t.node) (entries_map f t.below) ∷ seen (entries_map f t.below)

-- ---- the root of a partial unit

-- an entry in it has a path as its file
abbrev pub has_path : Plain → Bool
has_path (File (Some path)) = true
has_path _ = false

abbrev pub names_path : PartialUnit → Bool
names_path part = list_any (any_in (any_attr (λ a. has_path a.value.plain))) part.tops

abbrev pub line_attr : ℤ → Plain → Attr EntryName
line_attr raw plain = record { name = 0x10; form = 0x17; raw = raw; value = only plain }

abbrev pub line_of : Option (Attr EntryName) → Attr EntryName
line_of None = line_attr (pos 0) (Sec 0)
line_of (Some a) = line_attr a.raw a.value.plain

unfoldable pub root_of : List (FileUnit EntryName) → ℕ → List (Attr EntryName)
root_of [] i = []
root_of (f ∷ units) zero = f.unit.root.attrs
root_of (f ∷ units) (suc i) = root_of units i

abbrev pub first_unit : List Top → ℕ
first_unit [] = 0
first_unit (t ∷ tops) = t.unit

-- DW_AT_stmt_list (10) of the unit whose tops it holds, and 0 in the common file
abbrev pub line_in : List (FileUnit EntryName) → Home → List Top → Attr EntryName
line_in units (Local file) tops = line_of (first_named 0x10 (root_of units (first_unit tops)))
line_in units _ tops = line_attr (pos 0) (Sec 0)

unfoldable pub line_attrs : List (FileUnit EntryName) → PartialUnit → List (Attr EntryName)
line_attrs units part = elim (names_path part) as (λ _. List (Attr EntryName)) [
  | true ↦ line_in units part.home part.tops ∷ []
  | false ↦ []
]

-- ---- the plan

unfoldable pub part_at : ℕ → List PartialUnit → Option PartialUnit
part_at n [] = None
part_at zero (part ∷ parts) = Some part
part_at (suc n) (part ∷ parts) = part_at n parts

abbrev pub row_in_part : ℕ → Option PartialUnit → Row
row_in_part n None = Nothing
row_in_part n (Some part) = part_row n part

-- DW_AT_stmt_list where an entry names a file, and no other attribute
abbrev pub root_in_part : List (FileUnit EntryName) → Option PartialUnit → List (Attr EntryName)
root_in_part units None = []
root_in_part units (Some part) = line_attrs units part

abbrev pub plan : Rule → List (FileUnit EntryName) → List ℕ → Move
plan rule units files = record {
  gone = moves rule units;
  stand = stand_in rule units;
  parts = partials rule units files;
  rows = λ n. row_in_part n (part_at n (partials rule units files));
  roots = λ n. root_in_part units (part_at n (partials rule units files));
}
