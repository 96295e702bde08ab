-- The same units with other places, and the names that stand in units.
use Rattle.std.specs.Prelude.{◌≡◌, ℕ, List, [], ◌∷◌, ◌++◌}
use Rattle.dwz_def_reading.specs.Documents.{DwUnit, Entries, OfType, kind_map}
use Rattle.dwz_def_reading.specs.Lists.{In}
use Rattle.dwz_def_reading.specs.Trees.{End, Entry}
use Rattle.dwz_def_tops.specs.Seen.{IsShown}

-- so with all entries of a list, in order
abbrev pub AreShown : {P Q : Type 0} → (P → Q) → Entries P → Entries Q → Type 0
AreShown g End End = Unit {0}
AreShown g (Entry e f k) (Entry d f' k') = IsShown g e d × AreShown g f f' × AreShown g k k'
AreShown g _ _ = ⊥

-- and with a unit, its kind, its root and all below
pub record IsShownUnit {P Q : Type 0} (g : P → Q) (u : DwUnit P) (v : DwUnit Q) : Type 0 where
  pub kind : v.kind ≡ kind_map g u.kind
  pub root : IsShown g u.root v.root
  pub below : AreShown g u.below v.below

-- the same units in order, with each place replaced
abbrev pub UnitsShown : {P Q : Type 0} → (P → Q) → List (DwUnit P) → List (DwUnit Q) → Type 0
UnitsShown g [] [] = Unit {0}
UnitsShown g (u ∷ units) (v ∷ others) = IsShownUnit g u v × UnitsShown g units others
UnitsShown g _ _ = ⊥

-- ---- the keys of units

unfoldable pub keys : {K : Type 0} → Entries K → List K
keys End = []
keys (Entry e children next) = e.at ∷ keys children ++ keys next

unfoldable pub unit_keys : {K : Type 0} → DwUnit K → List K
unit_keys u = u.at ∷ u.root.at ∷ keys u.below

unfoldable pub units_keys : {K : Type 0} → List (DwUnit K) → List K
units_keys [] = []
units_keys (u ∷ units) = unit_keys u ++ units_keys units

-- no two names of units and entries have one place
abbrev pub OnePlace : {P Q : Type 0} → (P → Q) → List (DwUnit P) → Type 0
OnePlace {P} g units = (x y : P) → In x (units_keys units) → In y (units_keys units) → g x ≡ g y → x ≡ y

-- the type of a type unit is an entry of it
abbrev pub HasMain : {P : Type 0} → DwUnit P → Type 0
HasMain {P} u = (signature : ℕ) (main : P) → u.kind ≡ OfType signature main → In main (u.root.at ∷ keys u.below)

abbrev pub HaveMains : {P : Type 0} → List (DwUnit P) → Type 0
HaveMains {P} units = (u : DwUnit P) → In u units → HasMain u
