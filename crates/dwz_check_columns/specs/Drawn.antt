-- Columns, as they are drawn from the units of two files and of their common one.
use Rattle.std.specs.Prelude.{◌≡◌, ℕ, ◌+◌, ◌-◌, ◌≤◌, ◌^◌, Bool, false, List, [], ◌∷◌, ◌++◌, length, map, nat_lt, not, replicate, Some, None, if◌then◌else◌}
use Rattle.dwz_def_reading.specs.Documents.{Compile, DwUnit, Entries, Kind, OfType}
use Rattle.dwz_def_reading.specs.Trees.{End, Entry}
use Rattle.dwz_def_tops.specs.Spaces.{space_text}
use Rattle.dwz_def_cross.specs.CrossSame.{EachTwo}
use Rattle.dwz_def_cross.specs.Tops.{StandsAlong, WithCommon, units_with_common}
use Rattle.dwz_def_check.specs.CrossLists.{numbered_units}
use Rattle.dwz_def_check.specs.CrossNames.{cross_tops}
use Rattle.dwz_def_check.specs.CrossNodes.{lone_entries}
use Rattle.dwz_check_index.specs.Both.{with_common}
use Rattle.dwz_check_rows.specs.declared.columns.Columns.{Columns}
use Rattle.dwz_check_rows.specs.declared.columns.UnitNodes.{UnitNodes}
use Rattle.dwz_check_sides.specs.declared.lists.NameLists.{NameLists}
use Rattle.dwz_check_sides.specs.Names.{AreApart, IsListNumber}
use Rattle.dwz_check_sides.specs.Units.{nodes_of}
use Rattle.dwz_imports.specs.Imports.{AreImportLists, imports_any}
use Rattle.dwz_check_columns.specs.Shows.{beside}

-- ---- name lists

abbrev pub top_lists : List (DwUnit ℕ) → List (List (List ℕ))
top_lists units = map (λ t. t.names) (cross_tops units)

-- of spaces in preorder the names down to each, where they stand in spaces with these names
unfoldable pub lists_below : List (List ℕ) → Entries ℕ → List (List (List ℕ))
lists_below names End = []
lists_below names (Entry e children next) = elim (space_text e) as (λ _. List (List (List ℕ))) [
  | None ↦ lists_below names next
  | Some text ↦ (names ++ text ∷ []) ∷ lists_below (names ++ text ∷ []) children ++ lists_below names next
]

-- of the root of a compile unit, which stands in no space, and of its spaces
abbrev pub lists_of : Kind ℕ → DwUnit ℕ → List (List (List ℕ))
lists_of Compile u = [] ∷ lists_below [] u.below
lists_of _ u = []

unfoldable pub lone_lists : List (DwUnit ℕ) → List (List (List ℕ))
lone_lists [] = []
lone_lists (u ∷ units) = lists_of u.kind u ++ lone_lists units

-- of all nodes: of the tops of the old file, of the new one and of the common one, and of the roots and spaces of the first two
abbrev pub node_lists : (a b c : List (DwUnit ℕ)) → List (List (List ℕ))
node_lists a b c = top_lists a ++ top_lists b ++ top_lists c ++ lone_lists a ++ lone_lists b

-- ---- flags

-- of each top of a file whether it imports no partial unit
abbrev pub plain_tops : WithCommon ℕ → List Bool
plain_tops w = map (λ t. not (imports_any (units_with_common w) t.node)) (cross_tops w.own)

-- of all nodes, where roots and spaces are no such tops
abbrev pub plain_nodes : (a b c : List (DwUnit ℕ)) → List Bool
plain_nodes a b c =
    plain_tops (beside a c) ++ plain_tops (beside b c) ++ plain_tops (with_common c [])
    ++ replicate (length (lone_entries a) + length (lone_entries b)) false

-- ---- units

-- the nodes of the units of all three, where roots and spaces come behind all tops
abbrev pub unit_nodes : (a b c : List (DwUnit ℕ)) → List UnitNodes
unit_nodes a b c =
    let before = length (cross_tops a) + length (cross_tops b) in
    let lone = before + length (cross_tops c) in
    map (nodes_of lone) (numbered_units 0 0 a) ++ map (nodes_of (lone + length (lone_entries a))) (numbered_units (length (cross_tops a)) 0 b)
    ++ map (nodes_of 0) (numbered_units before 0 c)

-- of a type unit the path from its root to its type, and of another nothing
abbrev pub IsPathOf : DwUnit ℕ → Kind ℕ → List ℕ → Type 0
IsPathOf u (OfType signature main) path = StandsAlong path u.root u.below main
IsPathOf u _ path = path ≡ []

-- The number among all units, of a unit with a number among so many own ones and the common ones behind these: own ones begin at one number,
-- and common ones at another.
abbrev pub among_all : (own first common : ℕ) → ℕ → ℕ
among_all own first common n = if nat_lt n own then first + n else common + (n - own)

-- what units of a file import, by numbers among all units
abbrev pub imports_among : (own first common : ℕ) → List (List ℕ) → List (List ℕ)
imports_among own first common lists = map (map (among_all own first common)) lists

-- ---- columns

pub record AreDrawn (a b c : List (DwUnit ℕ)) (x : Columns) : Type 0 where
  pub known : NameLists
  pub bound : ℕ
  pub apart : AreApart known bound
  pub few : bound ≤ 2 ^ 32
  pub names : EachTwo (IsListNumber known) (node_lists a b c) x.names
  pub plain : x.plain ≡ plain_nodes a b c
  pub units : x.units ≡ unit_nodes a b c
  pub old : x.old ≡ length a
  pub new : x.new ≡ length b
  pub paths : EachTwo (λ u. IsPathOf u u.kind) (a ++ b ++ c) x.paths
  pub old_lists : List (List ℕ)
  pub new_lists : List (List ℕ)
  pub common_lists : List (List ℕ)
  pub old_imports : AreImportLists (beside a c) old_lists
  pub new_imports : AreImportLists (beside b c) new_lists
  pub common_imports : AreImportLists (with_common c []) common_lists
  pub imports : x.imports ≡ imports_among (length a) 0 (length a + length b) old_lists
      ++ imports_among (length b) (length a) (length a + length b) new_lists
      ++ imports_among (length c) (length a + length b) (length a + length b) common_lists
