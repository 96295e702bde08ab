-- The partial units that units of a file import, by their numbers (DWARF 5, 3.2.5).
use Rattle.std.specs.Prelude.{◌≡◌, ℕ, Bool, true, false, List, [], ◌∷◌, ◌++◌, ◌==◌, length, map, Some, slice_get, slice_index_or}
use Rattle.dwz_def_reading.specs.Documents.{DwUnit, Node}
use Rattle.dwz_def_reading.specs.Trees.{End, Entry}
use Rattle.dwz_def_cross.specs.Tops.{WithCommon, units_with_common}
use Rattle.dwz_def_expand.specs.Source.{imported_by, imported_in, once}
use Rattle.dwz_graph.specs.Rows.{nodes}

abbrev pub same : ℕ → ℕ → Bool
same m n = m == n

-- the numbers are those of these units
abbrev pub AreUnits : {P : Type 0} → List (DwUnit P) → List ℕ → List (DwUnit P) → Type 0
AreUnits units [] [] = Unit {0}
AreUnits units (n ∷ numbers) (u ∷ us) = (slice_get units n ≡ Some u) × AreUnits units numbers us
AreUnits units _ _ = ⊥

-- of each unit of the file those that children of its root import, in order of the imports, each once
pub record AreImportLists (w : WithCommon ℕ) (lists : List (List ℕ)) : Type 0 where
  pub len : length lists ≡ length w.own
  pub each : (n : ℕ) (u : DwUnit ℕ) → slice_get w.own n ≡ Some u
      → AreUnits (units_with_common w) (slice_index_or lists n []) (once same (imported_in same (units_with_common w) u.below))

abbrev pub is_some_unit : {P : Type 0} → List (DwUnit P) → Bool
is_some_unit [] = false
is_some_unit (v ∷ units) = true

-- an entry imports a partial unit
abbrev pub imports_any : List (DwUnit ℕ) → Node ℕ → Bool
imports_any units e = is_some_unit (imported_by same units e)

-- the entries of units, in preorder
unfoldable pub unit_nodes : {P : Type 0} → List (DwUnit P) → List (Node P)
unit_nodes [] = []
unit_nodes (u ∷ units) = nodes (Entry u.root u.below End) ++ unit_nodes units

-- of each entry of the file whether it does
abbrev pub importing_flags : WithCommon ℕ → List Bool
importing_flags w = map (imports_any (units_with_common w)) (unit_nodes w.own)
