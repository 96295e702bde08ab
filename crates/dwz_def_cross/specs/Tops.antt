-- What a file says whose compile units may import partial units, its own or those of a supplementary file (DWARF 5, 3.1.1, 7.3.6): its
-- tops, and where an entry stands in one. Places are of any type.
use Rattle.std.specs.Prelude.{◌≡◌, ◌⊎◌, ℕ, zero, suc, List, [], ◌∷◌, ◌++◌, Some, None}
use Rattle.dwz_def_reading.specs.Documents.{DwUnit, Entries, Kind, Node, OfType, Partial}
use Rattle.dwz_def_reading.specs.Lists.{In}
use Rattle.dwz_def_reading.specs.Trees.{End, Entry}
use Rattle.dwz_def_tops.specs.Seen.{IsChild, IsImport}
use Rattle.dwz_def_tops.specs.Spaces.{space_text}

-- the units of a file, and those of the supplementary file that it refers to, where there is one
pub record WithCommon (P : Type 0) : Type 0 where
  pub own : List (DwUnit P)
  pub common : List (DwUnit P)

abbrev pub units_with_common : {P : Type 0} → WithCommon P → List (DwUnit P)
units_with_common w = w.own ++ w.common

abbrev pub unless_partial : {P : Type 0} → Kind P → DwUnit P → List (DwUnit P) → List (DwUnit P)
unless_partial Partial u units = units
unless_partial _ u units = u ∷ units

-- the units that aren't partial, in order
unfoldable pub whole_units : {P : Type 0} → List (DwUnit P) → List (DwUnit P)
whole_units [] = []
whole_units (u ∷ units) = unless_partial u.kind u (whole_units units)

-- ---- tops

-- an entry that is no space, in the root of a compile or partial unit or in a space of one, with all below it and the names of the
-- spaces that it stands in, outermost first; or the root of a type unit
pub record CrossTop (P : Type 0) : Type 0 where
  pub names : List (List ℕ)
  pub node : Node P
  pub below : Entries P

-- it stands under these names among these entries
abbrev pub StandsUnder : {P : Type 0} → List (List ℕ) → CrossTop P → Entries P → Type 0
StandsUnder names t End = ⊥
StandsUnder names t (Entry d children next) =
    ((names ≡ []) × (space_text d ≡ None) × (d ≡ t.node) × (children ≡ t.below))
    ⊎ (((text : List ℕ) × (others : List (List ℕ)) × (space_text d ≡ Some text) × (names ≡ text ∷ others) × StandsUnder others t children)
    ⊎ StandsUnder names t next)

abbrev pub IsTopOf : {P : Type 0} → Kind P → DwUnit P → CrossTop P → Type 0
IsTopOf (OfType signature main) u t = (t.names ≡ []) × (t.node ≡ u.root) × (t.below ≡ u.below)
IsTopOf _ u t = StandsUnder t.names t u.below

abbrev pub IsCrossTop : {P : Type 0} → List (DwUnit P) → CrossTop P → Type 0
IsCrossTop {P} units t = (u : DwUnit P) × In u units × IsTopOf u.kind u t

-- the top of a type unit
abbrev pub type_top : {P : Type 0} → DwUnit P → CrossTop P
type_top u = record { names = []; node = u.root; below = u.below }

-- ---- where an entry stands in a top

-- the i-th of these entries, with what is below it
abbrev pub IsNthChild : {P : Type 0} → ℕ → Node P → Entries P → Entries P → Type 0
IsNthChild i e f End = ⊥
IsNthChild zero e f (Entry d children next) = (d ≡ e) × (children ≡ f)
IsNthChild (suc i) e f (Entry d children next) = IsNthChild i e f next

-- the entry at this path, from an entry down, has that place; a path has the child indexes
abbrev pub StandsAlong : {P : Type 0} → List ℕ → Node P → Entries P → P → Type 0
StandsAlong [] e below p = e.at ≡ p
StandsAlong {P} (i ∷ path) e below p = (d : Node P) × (f : Entries P) × IsNthChild i d f below × StandsAlong path d f p

abbrev pub StandsIn : {P : Type 0} → List ℕ → CrossTop P → P → Type 0
StandsIn path t p = StandsAlong path t.node t.below p

-- ---- imports expanded (3.2.5)

-- a top of these entries that imports no partial unit
abbrev pub IsPlainTop : {P : Type 0} → List (DwUnit P) → Entries P → CrossTop P → Type 0
IsPlainTop {P} units below t = StandsUnder t.names t below × ((v : DwUnit P) → IsImport units t.node v → ⊥)

-- a top of the unit, or of a partial unit that a child of its root imports
abbrev pub IsExpanded : {P : Type 0} → List (DwUnit P) → DwUnit P → CrossTop P → Type 0
IsExpanded {P} units u t =
    IsPlainTop units u.below t ⊎ ((e : Node P) × (v : DwUnit P) × IsChild e u.below × IsImport units e v × IsPlainTop units v.below t)
