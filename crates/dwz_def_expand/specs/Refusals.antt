-- Why a file isn't written without its partial units: what a value names stands in no unit after, or the line table of a unit has no row
-- for a file.
use Rattle.std.specs.Prelude.{◌≡◌, ℕ, suc, Bool, true, false, List, [], ◌∷◌, ◌++◌, None}
use Rattle.dwz_def_reading.specs.Fault.{Fault}
use Rattle.dwz_def_reading.specs.Reason.TheVariants.{NoRow, NotImported}
use Rattle.dwz_def_reading.specs.Documents.{Attr, DwUnit, Entries, Node}
use Rattle.dwz_def_reading.specs.Classes.{OfConstant, class_of, names_file}
use Rattle.dwz_def_reading.specs.FirstOf.{OfFirst, OrElse}
use Rattle.dwz_def_reading.specs.Lists.{Each}
use Rattle.dwz_def_reading.specs.Trees.{End, Entry}
use Rattle.dwz_def_encoding.specs.Placing.{OldUnit, UnitRole}
use Rattle.dwz_def_expand.specs.Chosen.{Choice, row_for}
use Rattle.dwz_def_expand.specs.Source.{source_units, source_places, unit_for}
use Rattle.dwz_def_cross.specs.Tops.{WithCommon}

-- ---- the values of sources

-- the sources of a unit in preorder
unfoldable pub nodes : {P : Type 0} → Entries P → List (Node P)
nodes End = []
nodes (Entry e children next) = e ∷ nodes children ++ nodes next

-- A value of a source: the number of the new unit, the source, the number of the attribute, where DW_AT_sibling isn't counted, and the
-- attribute.
pub record Site (P : Type 0) : Type 0 where
  pub unit : ℕ
  pub source : P
  pub index : ℕ
  pub attr : Attr P

abbrev pub sites_of : {P : Type 0} → ℕ → P → ℕ → List (Attr P) → List (Site P)
sites_of n source i [] = []
sites_of n source i (a ∷ attrs) = record { unit = n; source = source; index = i; attr = a } ∷ sites_of n source (suc i) attrs

unfoldable pub sites_in : {P : Type 0} → ℕ → List (Node P) → List (Site P)
sites_in n [] = []
sites_in n (e ∷ entries) = sites_of n e.at 0 e.attrs ++ sites_in n entries

unfoldable pub sites_from : {P : Type 0} → ℕ → List (DwUnit P) → List (Site P)
sites_from n [] = []
sites_from n (u ∷ units) = sites_in n (u.root ∷ nodes u.below) ++ sites_from (suc n) units

-- all of them, in the order of the new units, then of entries, then of attributes
abbrev pub sites : {P : Type 0} → (P → P → Bool) → WithCommon P → List (Site P)
sites same w = sites_from 0 (source_units same w)

-- ---- what can't be copied

-- what it names stands in no unit after
abbrev pub IsLost : {P : Type 0} → (P → P → Bool) → List (List P) → ℕ → P → Type 0
IsLost same units n p = unit_for same units n p ≡ None

abbrev pub is_copied : UnitRole → Bool
is_copied OldUnit = false
is_copied _ = true

-- it is a file of an entry that stood in a partial unit, and there is no number for it in the new unit
pub record LacksRow {P : Type 0} (c : Choice P) (s : Site P) : Type 0 where
  pub constant : class_of s.attr.form ≡ OfConstant
  pub file : names_file s.attr.name ≡ true
  pub copied : is_copied (c.role s.source) ≡ true
  pub none : row_for (c.paths s.unit) s.attr.value.plain ≡ None

pub record CanCopy {P : Type 0} (same : P → P → Bool) (units : List (List P)) (c : Choice P) (s : Site P) : Type 0 where
  pub imported : Each (λ p. ¬ IsLost same units s.unit p) s.attr.value.refs
  pub row : ¬ LacksRow c s

-- each value of each source can be copied
abbrev pub AllCopied : {P : Type 0} → (P → P → Bool) → Choice P → WithCommon P → Type 0
AllCopied same c w = Each (CanCopy same (source_places same w) c) (sites same w)

-- ---- the fault

-- Where a value stands as it is stored, by its entry and its number there; and where it names an entry, by the number of that one, with the
-- section: at the value, or at the operand in an expression or in a location list.
pub record Where (P : Type 0) : Type 0 where
  pub value : P → (index : ℕ) → ℕ
  pub named : P → (index number : ℕ) → (section : ℕ) × ℕ

unfoldable pub with_numbers : {X : Type 0} → ℕ → List X → List (ℕ × X)
with_numbers n [] = []
with_numbers n (x ∷ xs) = (n, x) ∷ with_numbers (suc n) xs

abbrev pub not_imported : (section : ℕ) × ℕ → Fault
not_imported place = record { section = place.0; at = place.1; reason = NotImported }

abbrev pub no_row : ℕ → Fault
no_row at = record { section = 1; at = at; reason = NoRow }

-- the place with that number which the value names is lost
abbrev pub LostFault : {P : Type 0} → (P → P → Bool) → List (List P) → Where P → Site P → ℕ × P → Fault → Type 0
LostFault same units at s ref f = IsLost same units s.unit ref.1 × (f ≡ not_imported (at.named s.source s.index ref.0))

abbrev pub RowFault : {P : Type 0} → Choice P → Where P → Site P → Fault → Type 0
RowFault c at s f = LacksRow c s × (f ≡ no_row (at.value s.source s.index))

-- the first place that is lost, or else the file
abbrev pub SiteFault : {P : Type 0} → (P → P → Bool) → List (List P) → Choice P → Where P → Site P → Fault → Type 0
SiteFault same units c at s = OrElse (OfFirst (LostFault same units at s) (with_numbers 0 s.attr.value.refs)) (RowFault c at s)
