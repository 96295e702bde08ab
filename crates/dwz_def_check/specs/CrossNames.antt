-- Inner: what a place is called in looks across files: in a top by the top's number and the path there, and else by what it is.
use Rattle.std.specs.Prelude.{◌⊎◌, ℕ, suc, ◌+◌, List, [], ◌∷◌, ◌++◌, length, reverse, Some, None}
use Rattle.dwz_def_reading.specs.Documents.{Compile, DwUnit, Entries, Kind, OfType, Partial}
use Rattle.dwz_def_reading.specs.Lists.{In}
use Rattle.dwz_def_reading.specs.Trees.{End, Entry}
use Rattle.dwz_def_tops.specs.Lists.{NoneTwice, Nth}
use Rattle.dwz_def_tops.specs.Seen.{Closed, IsPartial, Seen, all_seen}
use Rattle.dwz_def_tops.specs.Shown.{HaveMains, units_keys}
use Rattle.dwz_def_tops.specs.Spaces.{space_text, tops_under}
use Rattle.dwz_def_cross.specs.Tops.{CrossTop, StandsIn, WithCommon, type_top, units_with_common}
use Rattle.dwz_def_cross.specs.CrossLook.{IsPartialRoot, IsPartialSpace, IsRootOf, IsSpaceOf}

-- Tops are numbered over all files; units that aren't partial in each. A path is the list of child indexes, from an entry up to its
-- top. The root of a type unit is a top.
pub data CrossName : Type 0 where
  AtPath : (top : ℕ) → (path : List ℕ) → CrossName
  WholeRoot : (unit : ℕ) → CrossName
  WholeSpace : (unit : ℕ) → (names : List (List ℕ)) → CrossName
  PartRoot : CrossName
  PartSpace : (names : List (List ℕ)) → CrossName

-- ---- tops in order

-- the tops of entries in spaces with these names, in preorder
unfoldable pub cross_tops_in : {P : Type 0} → List (List ℕ) → Entries P → List (CrossTop P)
cross_tops_in names End = []
cross_tops_in {P} names (Entry e children next) = elim (space_text e) as (λ _. List (CrossTop P)) [
  | None ↦ record { names = names; node = e; below = children } ∷ cross_tops_in names next
  | Some text ↦ cross_tops_in (names ++ text ∷ []) children ++ cross_tops_in names next
]

abbrev pub unit_tops : {P : Type 0} → Kind P → DwUnit P → List (CrossTop P)
unit_tops (OfType signature main) u = type_top u ∷ []
unit_tops _ u = cross_tops_in [] u.below

-- the tops of units, in order
unfoldable pub cross_tops : {P : Type 0} → List (DwUnit P) → List (CrossTop P)
cross_tops [] = []
cross_tops (u ∷ units) = unit_tops u.kind u ++ cross_tops units

-- ---- one of the two files

-- A file with its common one, the numbers that the first of its own tops has, the first of the common ones, and the first of its roots
-- and spaces; and what each place is called.
pub record Side (P : Type 0) : Type 0 where
  pub files : WithCommon P
  pub own : ℕ
  pub common : ℕ
  pub lone : ℕ
  pub name : P → CrossName

-- the top with that number
abbrev pub IsNthTop : {P : Type 0} → Side P → ℕ → CrossTop P → Type 0
IsNthTop s n t = Nth s.own (cross_tops s.files.own) n t ⊎ Nth s.common (cross_tops s.files.common) n t

-- a place has that name
abbrev pub IsNameOf : {P : Type 0} → Side P → P → CrossName → Type 0
IsNameOf {P} s p (AtPath n path) = (t : CrossTop P) × IsNthTop s n t × StandsIn (reverse path) t p
IsNameOf s p (WholeRoot n) = IsRootOf s.files n p
IsNameOf s p (WholeSpace n names) = IsSpaceOf s.files n names p
IsNameOf s p PartRoot = IsPartialRoot s.files p
IsNameOf s p (PartSpace names) = IsPartialSpace s.files names p

-- each place at which an entry stands is called by its name
abbrev pub IsNamedSide : {P : Type 0} → Side P → Type 0
IsNamedSide {P} s = (d : Seen P) → In d (all_seen (units_with_common s.files)) → IsNameOf s d.at (s.name d.at)

-- what reading gives: no place is that of two entries, each reference names an entry, the type of a type unit is an entry of it, and the
-- common units are partial
pub record IsWellRead {P : Type 0} (v : WithCommon P) : Type 0 where
  pub apart : NoneTwice (units_keys (units_with_common v))
  pub closed : Closed (units_with_common v)
  pub mains : HaveMains v.own
  pub partial : (u : DwUnit P) → In u v.common → IsPartial u.kind

-- both files are read so, and each place has its name
pub record AreSides {P Q : Type 0} (s : Side P) (t : Side Q) : Type 0 where
  pub old : IsWellRead s.files
  pub new : IsWellRead t.files
  pub old_named : IsNamedSide s
  pub new_named : IsNamedSide t

-- ---- names in preorder

-- the entries below one of a top, by the path of what is above them and the index of the first
unfoldable pub cross_names_below : {P : Type 0} → ℕ → List ℕ → ℕ → Entries P → List (P × CrossName)
cross_names_below top path i End = []
cross_names_below top path i (Entry e children next) =
    (e.at, AtPath top (i ∷ path)) ∷ cross_names_below top (i ∷ path) 0 children ++ cross_names_below top path (suc i) next

-- the entries of a root, or of a space with these names, where the first top has that number
unfoldable pub cross_names_under : {P : Type 0} → (List (List ℕ) → CrossName) → List (List ℕ) → ℕ → Entries P → List (P × CrossName)
cross_names_under space names top End = []
cross_names_under {P} space names top (Entry e children next) = elim (space_text e) as (λ _. List (P × CrossName)) [
  | None ↦ (e.at, AtPath top []) ∷ cross_names_below top [] 0 children ++ cross_names_under space names (suc top) next
  | Some text ↦ (e.at, space (names ++ text ∷ []))
      ∷ cross_names_under space (names ++ text ∷ []) top children ++ cross_names_under space names (top + tops_under children) next
]

-- a unit, which is the n-th that isn't partial, if it is none
abbrev pub cross_unit_names : {P : Type 0} → ℕ → ℕ → Kind P → DwUnit P → List (P × CrossName)
cross_unit_names n top Compile u = (u.root.at, WholeRoot n) ∷ cross_names_under (WholeSpace n) [] top u.below
cross_unit_names n top (OfType signature main) u = (u.root.at, AtPath top []) ∷ cross_names_below top [] 0 u.below
cross_unit_names n top Partial u = (u.root.at, PartRoot) ∷ cross_names_under PartSpace [] top u.below

abbrev pub next_whole : {P : Type 0} → Kind P → ℕ → ℕ
next_whole Partial n = n
next_whole _ n = suc n

-- units, the first of which is the n-th that isn't partial, if it is none, and whose first top has that number
unfoldable pub cross_names_from : {P : Type 0} → ℕ → ℕ → List (DwUnit P) → List (P × CrossName)
cross_names_from n top [] = []
cross_names_from n top (u ∷ units) = cross_unit_names n top u.kind u ++ cross_names_from (next_whole u.kind n) (top + length (unit_tops u.kind u)) units

-- all entries of one file and its common one
abbrev pub cross_names : {P : Type 0} → Side P → List (P × CrossName)
cross_names s = cross_names_from 0 s.own s.files.own ++ cross_names_from 0 s.common s.files.common
