-- The units of a file without its partial units: each compile unit holds copies of what it imports (DWARF 5, 3.2.5). An entry of the new
-- file stands for an entry of the old one or of the supplementary file (7.3.6), which is its source.
use Rattle.std.specs.Prelude.{ℕ, suc, Bool, true, false, List, [], ◌∷◌, ◌++◌, map, get_or, unwrap_or, Option, Some, None, ◌==◌, ◌&&◌, not}
use Rattle.std.specs.Prelude.{if◌then◌else◌}
use Rattle.std.specs.List.{filter, list_any}
use Rattle.dwz_def_reading.specs.Documents.{Attr, Compile, DwUnit, Entries, Kind, Node, Partial, Plain, Ref, unit_map}
use Rattle.dwz_def_reading.specs.Trees.{End, Entry}
use Rattle.dwz_def_encoding.specs.Meant.{entry_keys}
use Rattle.dwz_def_encoding.specs.Placing.{has_key}
use Rattle.dwz_def_cross.specs.Tops.{WithCommon, units_with_common, whole_units}

-- ---- which partial units are imported

abbrev pub is_partial : {P : Type 0} → Kind P → Bool
is_partial Partial = true
is_partial _ = false

-- a value that is just the entry at a place
abbrev pub is_entry : {P : Type 0} → (P → P → Bool) → P → Plain → List P → Bool → Bool
is_entry same p Ref (q ∷ []) false = same q p
is_entry same p _ _ _ = false

-- DW_AT_import of the entry at a place
abbrev pub is_import_attr : {P : Type 0} → (P → P → Bool) → P → Attr P → Bool
is_import_attr same p a = a.name == 0x18 && is_entry same p a.value.plain a.value.refs a.value.address

-- DW_TAG_imported_unit of it
abbrev pub is_import : {P : Type 0} → (P → P → Bool) → P → Node P → Bool
is_import same p e = e.tag == 0x3d && list_any (is_import_attr same p) e.attrs

-- the partial units that an entry imports
unfoldable pub imported_by : {P : Type 0} → (P → P → Bool) → List (DwUnit P) → Node P → List (DwUnit P)
imported_by same units e = filter (λ v. is_partial v.kind && is_import same v.root.at e) units

-- those that these entries import, in order of the imports
unfoldable pub imported_in : {P : Type 0} → (P → P → Bool) → List (DwUnit P) → Entries P → List (DwUnit P)
imported_in same units End = []
imported_in same units (Entry e children next) = imported_by same units e ++ imported_in same units next

-- each once, where it stands first
unfoldable pub once : {P : Type 0} → (P → P → Bool) → List (DwUnit P) → List (DwUnit P)
once same [] = []
once same (v ∷ units) = v ∷ filter (λ w. not (same w.at v.at)) (once same units)

-- ---- the sources of a unit

-- entries, and others behind them
unfoldable pub followed_by : {P : Type 0} → Entries P → Entries P → Entries P
followed_by End last = last
followed_by (Entry e children next) last = Entry e children (followed_by next last)

abbrev pub unless_import : {P : Type 0} → List (DwUnit P) → Node P → Entries P → Entries P → Entries P
unless_import [] e children next = Entry e children next
unless_import (v ∷ parts) e children next = next

-- the entries that import no partial unit
unfoldable pub without_imports : {P : Type 0} → (P → P → Bool) → List (DwUnit P) → Entries P → Entries P
without_imports same units End = End
without_imports same units (Entry e children next) = unless_import (imported_by same units e) e children (without_imports same units next)

-- what stands in the roots of partial units, one after the other
unfoldable pub inside : {P : Type 0} → List (DwUnit P) → Entries P
inside [] = End
inside (v ∷ parts) = followed_by v.below (inside parts)

-- in a compile unit the entries that import no partial unit, and behind them what stands in those that are imported
abbrev pub sources_below : {P : Type 0} → (P → P → Bool) → List (DwUnit P) → Kind P → Entries P → Entries P
sources_below same units Compile below = followed_by (without_imports same units below) (inside (once same (imported_in same units below)))
sources_below same units _ below = below

abbrev pub source_unit : {P : Type 0} → (P → P → Bool) → List (DwUnit P) → DwUnit P → DwUnit P
source_unit same units u = record { at = u.at; kind = u.kind; root = u.root; below = sources_below same units u.kind u.below }

-- the units that aren't partial, in order, with the sources of their entries
abbrev pub source_units : {P : Type 0} → (P → P → Bool) → WithCommon P → List (DwUnit P)
source_units same w = map (source_unit same (units_with_common w)) (whole_units w.own)

-- ---- the units of the new file

-- what stands for a source in the new file, in the unit with that number
pub record Copy (P : Type 0) : Type 0 where
  pub unit : ℕ
  pub source : P

abbrev pub copy : {P : Type 0} → ℕ → P → Copy P
copy n p = record { unit = n; source = p }

-- the places of the sources, unit by unit
abbrev pub source_places : {P : Type 0} → (P → P → Bool) → WithCommon P → List (List P)
source_places same w = map entry_keys (source_units same w)

-- the number of the first unit that has a copy, where the first of these has that number
unfoldable pub first_with : {P : Type 0} → (P → P → Bool) → ℕ → List (List P) → P → Option ℕ
first_with same n [] p = None
first_with same n (places ∷ units) p = if has_key same p places then Some n else first_with same (suc n) units p

-- The unit in which that stands after which the n-th names: in that unit, or else in the first that has a copy. In none, where no compile
-- unit imports the partial unit in which it stood, or it was the root of one or imported one.
unfoldable pub unit_for : {P : Type 0} → (P → P → Bool) → List (List P) → ℕ → P → Option ℕ
unit_for same units n p = if has_key same p (get_or units n []) then Some n else first_with same 0 units p

abbrev pub copy_for : {P : Type 0} → (P → P → Bool) → List (List P) → ℕ → P → Copy P
copy_for same units n p = copy (unwrap_or (unit_for same units n p) n) p

-- units, the first of which has that number, with the copy for each place
unfoldable pub copies : {P : Type 0} → (P → P → Bool) → List (List P) → ℕ → List (DwUnit P) → List (DwUnit (Copy P))
copies same units n [] = []
copies same units n (u ∷ others) = unit_map (copy_for same units n) u ∷ copies same units (suc n) others

-- the units of the new file; their values have the forms of their sources
abbrev pub expanded : {P : Type 0} → (P → P → Bool) → WithCommon P → List (DwUnit (Copy P))
expanded same w = copies same (source_places same w) 0 (source_units same w)
