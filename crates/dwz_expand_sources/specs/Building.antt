-- How the plan is built, unit by unit and list by list. `root` is the number of a root, and `at` that of a list's first entry.
use Rattle.std.specs.Prelude.{◌≡◌, ℕ, ◌+◌, ◌<◌, Bool, true, false, List, [], ◌∷◌, ◌++◌, length, nat_lt, if◌then◌else◌, ◌==◌}
use Rattle.std.specs.Prelude.{Option, Some, None, slice_get, slice_index_or}
use Rattle.std.specs.List.{flat_map}
use Rattle.dwz_def_reading.specs.Documents.{Compile, DwUnit, Kind, Node, OfType, Partial}
use Rattle.dwz_def_reading.specs.Entries.{RawEntry}
use Rattle.dwz_def_reading.specs.Lists.{Each}
use Rattle.dwz_def_reading.specs.Trees.{End, Entry, Forest, size}
use Rattle.dwz_def_reading.specs.Units.{RawUnit}
use Rattle.dwz_def_cross.specs.Tops.{WithCommon}
use Rattle.dwz_unit.specs.Rows.{kind_number}
use Rattle.dwz_imports.specs.Imports.{AreImportLists, importing_flags}
use Rattle.dwz_expand_sources.specs.declared.building.Known.{Known as KnownOfCode}
use Rattle.dwz_expand_sources.specs.declared.sources.SourceRange.{SourceRange}
use Rattle.dwz_expand_sources.specs.declared.spans.UnitSpan.{UnitSpan}
use Rattle.dwz_expand_sources.specs.Sources.{Sources}

-- ---- units by what their numbers depend on

-- a unit: its type (DWARF 5, 7.5.1), and what is below its root
pub record Shape (E : Type 0) : Type 0 where
  pub kind : ℕ
  pub below : Forest E

abbrev pub kind_said : {P : Type 0} → Kind P → ℕ
kind_said Compile = 1
kind_said (OfType signature main) = 2
kind_said Partial = 3

abbrev pub stored_shape : RawUnit → Shape RawEntry
stored_shape u = record { kind = kind_number u.kind; below = u.below }

abbrev pub said_shape : {P : Type 0} → DwUnit P → Shape (Node P)
said_shape u = record { kind = kind_said u.kind; below = u.below }

-- how many entries they have, with their roots
unfoldable pub shape_count : {E : Type 0} → List (Shape E) → ℕ
shape_count [] = 0
shape_count (s ∷ shapes) = size s.below + 1 + shape_count shapes

-- ---- where units begin and end

abbrev pub unit_span : ℕ → ℕ → UnitSpan
unit_span root end = record { root = root; end = end }

-- the numbers of roots, and those behind the last entries, where the first root has that number
unfoldable pub spans_from : {E : Type 0} → ℕ → List (Shape E) → List UnitSpan
spans_from root [] = []
spans_from root (s ∷ shapes) = unit_span root (root + (size s.below + 1)) ∷ spans_from (root + (size s.below + 1)) shapes

-- ---- ranges

-- the entries from one number to before another, if there are any
abbrev pub range_if : ℕ → ℕ → List SourceRange
range_if first end = if nat_lt first end then record { first = first; end = end } ∷ [] else []

-- what is known of the entries of a file: which of them import a unit, what each unit imports, and where units begin and end
pub record Known : Type 0 where
  pub importing : List Bool
  pub imports : List (List ℕ)
  pub spans : List UnitSpan

abbrev pub known_view : KnownOfCode → Known
known_view k = record { importing = k.importing.now; imports = k.imports.now; spans = k.spans.now }

-- of a list the entries that import no unit, with what stands before them from a number on
unfoldable pub kept_ranges : {E : Type 0} → List Bool → (from at : ℕ) → Forest E → List SourceRange
kept_ranges importing from at End = range_if from at
kept_ranges importing from at (Entry e children next) = elim (slice_index_or importing at false) as (λ _. List SourceRange) [
  | true ↦ range_if from at ++ kept_ranges importing (at + 1 + size children) (at + 1 + size children) next
  | false ↦ kept_ranges importing from (at + 1 + size children) next
]

-- what stands in a root
abbrev pub range_below : Option UnitSpan → List SourceRange
range_below None = []
range_below (Some s) = range_if (s.root + 1) s.end

abbrev pub part_ranges : List UnitSpan → List ℕ → List SourceRange
part_ranges spans parts = flat_map (λ part. range_below (slice_get spans part)) parts

-- what stands in the root of the unit with a number after: in that of a compile unit what it imports stands behind its own
abbrev pub ranges_in : {E : Type 0} → Known → (n root : ℕ) → Shape E → List SourceRange
ranges_in k n root s =
    if s.kind == 1 then kept_ranges k.importing (root + 1) (root + 1) s.below ++ part_ranges k.spans (slice_index_or k.imports n [])
    else range_if (root + 1) (root + 1 + size s.below)

-- ---- units

abbrev pub with_new : (n root : ℕ) → List SourceRange → Sources → Sources
with_new n root ranges x = record {
  units = x.units ++ record { unit = n; root = root; first = length x.ranges; end = length (x.ranges ++ ranges) } ∷ [];
  ranges = x.ranges ++ ranges;
}

-- with the unit with that number, unless it is partial
abbrev pub with_unit : {E : Type 0} → Known → (n root : ℕ) → Shape E → Sources → Sources
with_unit k n root s x = if s.kind == 3 then x else with_new n root (ranges_in k n root s) x

-- with units, the first of which has that number
unfoldable pub with_units : {E : Type 0} → Known → (n root : ℕ) → List (Shape E) → Sources → Sources
with_units k n root [] x = x
with_units k n root (s ∷ shapes) x = with_units k (n + 1) (root + (size s.below + 1)) shapes (with_unit k n root s x)

abbrev pub nothing_yet : Sources
nothing_yet = record { units = []; ranges = [] }

-- ---- what is asked for

-- each has its root
abbrev pub AreSpans : List UnitSpan → Type 0
AreSpans spans = Each (λ s. s.root < s.end) spans

-- Of each unit of the file the numbers of the partial units that it imports, each once, in order; and which of its entries import one.
pub record AreImports (w : WithCommon ℕ) (imports : List (List ℕ)) (importing : List Bool) : Type 0 where
  pub units : AreImportLists w imports
  pub entries : importing ≡ importing_flags w

-- there are imports for each of so many units, all of them are among so many, and a mark for each of so many entries
pub record AreImportsOf (units all entries : ℕ) (imports : List (List ℕ)) (importing : List Bool) : Type 0 where
  pub lists : length imports ≡ units
  pub within : Each (Each (λ v. v < all)) imports
  pub marks : length importing ≡ entries
