-- The order of all that is written shows the units after.
use Rattle.std.specs.Prelude.{◌≡◌, ℕ, suc, pos, ◌+◌, ◌==◌, List, [], ◌∷◌, Some, None, slice_get}
use Rattle.dwz_def_reading.specs.Documents.{Attr, Compile, Kind, OfType}
use Rattle.dwz_def_reading.specs.Meanings.{IfSo}
use Rattle.dwz_def_tops.specs.Spots.{EntryName, FileUnit, RootOf}
use Rattle.dwz_layout_items.specs.Chains.{NamesPartial}
use Rattle.dwz_layout_items.specs.Order.{Names, ShowsUnit}
use Rattle.dwz_layout_items.specs.Shows.{NamesKept}
use Rattle.dwz_def_images.specs.Homes.{Home, same_home}
use Rattle.dwz_def_images.specs.Moves.{Move, image_in}
use Rattle.dwz_def_images.specs.Plan.{PartialUnit}
use Rattle.dwz_layout.specs.declared.order.Sort.{Sort}
use Rattle.dwz_layout.specs.declared.order.Sort.TheVariants.{Compile as CompileSort, OfType as TypeSort, Partial as PartialSort}
use Rattle.dwz_layout.specs.declared.order.UnitItems.{UnitItems}
use Rattle.dwz_def_images.specs.Units.{kept_unit, partial_unit}
use Rattle.dwz_layout_order.specs.Named.{NamesAll}
use Rattle.dwz_layout_order.specs.Spaces.{said_of}

-- ---- what entries are called before, by the numbers of their files and their numbers there; and the numbers of all entries among those of
-- all files

pub record Entered : Type 0 where
  pub names : (file : ℕ) → List EntryName
  pub start : (file : ℕ) → ℕ

abbrev pub IsNamed : Entered → (file entry : ℕ) → EntryName → Type 0
IsNamed e file entry name = slice_get (e.names file) entry ≡ Some name

-- ---- sorts

-- a compile unit is known by its root; a type unit by its root too, its signature, and the entry of its type, which has that name after
abbrev pub ShowsSort : Entered → Move → (unit : ℕ) → Sort → Kind EntryName → Type 0
ShowsSort e m unit (CompileSort root) Compile = IsNamed e root.file root.entry (RootOf unit)
ShowsSort e m unit (TypeSort root s main) (OfType signature key) =
    IsNamed e root.file root.entry (RootOf unit) × (s ≡ signature)
    × ((entry : ℕ) × (name : EntryName) × (main ≡ e.start root.file + entry) × IsNamed e root.file entry name × (key ≡ image_in m name))
ShowsSort e m unit _ _ = ⊥

-- the root of a partial unit has a line table where one is said
abbrev pub ShowsLine : Sort → List (Attr EntryName) → Type 0
ShowsLine (PartialSort None) attrs = attrs ≡ []
ShowsLine (PartialSort (Some line)) attrs = (a : Attr EntryName) × (attrs ≡ a ∷ []) × (a.name ≡ 0x10) × (a.form ≡ 0x17) × (a.raw ≡ pos line)
ShowsLine _ attrs = ⊥

-- ---- units

-- the old unit with that number is written so
pub record ShowsKept (e : Entered) (m : Move) (units : List (FileUnit EntryName)) (i : ℕ) (u : FileUnit EntryName) (o : UnitItems) : Type 0
  where
    pub lines : (n : Names EntryName) → NamesAll (image_in m) units n → NamesKept m i u.unit n → ShowsUnit n o.items (kept_unit m units i u)
    pub sort : ShowsSort e m i o.sort (kept_unit m units i u).kind

-- so is the partial unit with that number
pub record ShowsPart (m : Move) (units : List (FileUnit EntryName)) (k : ℕ) (o : UnitItems) : Type 0 where
  pub lines : (n : Names EntryName) → NamesAll (image_in m) units n → NamesPartial m k (said_of units) n
      → ShowsUnit n o.items (partial_unit m k)
  pub line : ShowsLine o.sort (m.roots k)

-- ---- files

-- P holds of the first of these, and Q of those behind it
abbrev pub First : (UnitItems → Type 0) → (List UnitItems → Type 0) → List UnitItems → Type 0
First P Q [] = ⊥
First P Q (o ∷ order) = P o × Q order

-- of these units, the first of which has that number, those of a file are written one behind the other
abbrev pub KeptShown : Entered → Move → (all : List (FileUnit EntryName)) → (file i : ℕ) → List (FileUnit EntryName) → List UnitItems
    → Type 0
KeptShown e m all file i [] order = order ≡ []
KeptShown e m all file i (f ∷ units) order =
    IfSo (f.file == file) (First (ShowsKept e m all i f) (KeptShown e m all file (suc i) units) order)
    (KeptShown e m all file (suc i) units order)

-- of these partial units those with a home
abbrev pub PartsShown : Move → (all : List (FileUnit EntryName)) → Home → (k : ℕ) → List PartialUnit → List UnitItems → Type 0
PartsShown m all h k [] order = order ≡ []
PartsShown m all h k (part ∷ parts) order =
    IfSo (same_home part.home h) (First (ShowsPart m all k) (PartsShown m all h (suc k) parts) order)
    (PartsShown m all h (suc k) parts order)
