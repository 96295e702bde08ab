-- Rows of operands in order of place, and what a pass over them finds.
use Rattle.std.specs.Prelude.{◌≡◌, ◌⊎◌, ℕ, ◌+◌, ◌<◌, ◌≤◌, Bool, true, false, List, [], ◌∷◌, length, map, Option, Some, None, ◌==◌, ◌&&◌}
use Rattle.std.specs.Prelude.{slice_get}
use Rattle.std.specs.List.Sorted.{IsNonDecreasingBy}
use Rattle.dwz_def_reading.specs.Lists.{In}
use Rattle.dwz_def_reading.specs.Rows.{has}
use Rattle.dwz_def_reading.specs.Shared.{OneOf, same_base, same_truth}
use Rattle.dwz_graph_resolve.specs.declared.operands.ListOperand.{ListOperand}

-- ---- operands

-- one place, width, spelling and base, and one unit
pub record Same (o p : ListOperand) : Type 0 where
  pub unit : o.unit ≡ p.unit
  pub at : o.at ≡ p.at
  pub width : o.width ≡ p.width
  pub uleb : o.uleb ≡ p.uleb
  pub base : o.base ≡ p.base

abbrev pub same_operand : ListOperand → ListOperand → Bool
same_operand o p = o.unit == p.unit && (o.at == p.at && (o.width == p.width && (same_truth o.uleb p.uleb && same_base o.base p.base)))

-- the same as the last one, if there is one
abbrev pub repeats_last : Option ListOperand → ListOperand → Bool
repeats_last None o = false
repeats_last (Some p) o = same_operand p o

-- each has a byte
abbrev pub AreWide : List ListOperand → Type 0
AreWide xs = (o : ListOperand) → In o xs → 0 < o.width

-- their places don't fall
abbrev pub Rise : List ListOperand → Type 0
Rise xs = IsNonDecreasingBy (λ o. o.at) xs

-- from one place to another, each begins where the one before it ends, or behind, and has a byte
abbrev pub Rows : ℕ → List ListOperand → ℕ → Type 0
Rows from [] to = from ≤ to
Rows from (o ∷ rows) to = (from ≤ o.at) × (0 < o.width) × Rows (o.at + o.width) rows to

abbrev pub places_of_rows : List ListOperand → List ℕ
places_of_rows rows = map (λ o. o.at) rows

-- ---- a place that may be there

-- a number is below it
abbrev pub Before : Option ℕ → ℕ → Type 0
Before None n = Unit {0}
Before (Some place) n = n < place

-- the lesser of two places
pub record IsLesser (a b least : Option ℕ) : Type 0 where
  pub first : (n : ℕ) → Before least n → Before a n
  pub second : (n : ℕ) → Before least n → Before b n
  pub one : (least ≡ a) ⊎ (least ≡ b)

-- ---- operands that have a byte in common

-- the first of two begins no later, they have a byte in common and aren't the same
pub record Clash (xs : List ListOperand) (place : ℕ) : Type 0 where
  pub first : ListOperand
  pub second : ListOperand
  pub is_first : In first xs
  pub is_second : In second xs
  pub at : place ≡ second.at
  pub order : first.at ≤ second.at
  pub reach : second.at < first.at + first.width
  pub differ : Same first second → ⊥

abbrev pub HasClash : List ListOperand → Option ℕ → Type 0
HasClash xs None = Unit {0}
HasClash xs (Some place) = Clash xs place

-- Those of the operands that begin before the first that clashes are kept, in order, and the same ones once.
pub record FindsApart (xs kept : List ListOperand) (clash : Option ℕ) : Type 0 where
  pub top : ℕ
  pub rows : Rows 0 kept top
  pub from : (r : ListOperand) → In r kept → In r xs
  pub all : (o : ListOperand) → In o xs → Before clash o.at → OneOf kept (λ r. Same r o)
  pub clash_is : HasClash xs clash

-- ---- rows that have a byte of a list

-- so many rows end at a place or before it
pub record Behind (kept : List ListOperand) (place : ℕ) (count : ℕ) : Type 0 where
  pub within : count ≤ length kept
  pub before : (k : ℕ) (r : ListOperand) → slice_get kept k ≡ Some r → k < count → r.at + r.width ≤ place
  pub after : (k : ℕ) (r : ListOperand) → slice_get kept k ≡ Some r → count ≤ k → place < r.at + r.width

-- the bytes of a list or a slot, and its own operands
pub record Test : Type 0 where
  pub from : ℕ
  pub end : ℕ
  pub own : List ListOperand

pub record Overlaps (r : ListOperand) (t : Test) : Type 0 where
  pub low : r.at < t.end
  pub high : t.from < r.at + r.width

abbrev pub owns_place : Test → ℕ → Bool
owns_place t place = has place (places_of_rows t.own)

-- a row that has a byte there and isn't one of its own
pub record Foreign (kept : List ListOperand) (t : Test) (place : ℕ) : Type 0 where
  pub row : ListOperand
  pub is_row : In row kept
  pub at : place ≡ row.at
  pub overlaps : Overlaps row t
  pub other : owns_place t place ≡ false

abbrev pub HasForeign : List ListOperand → Test → Option ℕ → Type 0
HasForeign kept t None = Unit {0}
HasForeign kept t (Some place) = Foreign kept t place

-- the first of these
pub record FindsForeign (kept : List ListOperand) (t : Test) (place : Option ℕ) : Type 0 where
  pub none : (r : ListOperand) → In r kept → Before place r.at → Overlaps r t → owns_place t r.at ≡ true
  pub some : HasForeign kept t place

-- the same of several lists and slots, and of operands that clash
abbrev pub IsCause : List ListOperand → List ListOperand → List Test → Option ℕ → Type 0
IsCause xs kept tests None = Unit {0}
IsCause xs kept tests (Some place) = Clash xs place ⊎ OneOf tests (λ t. Foreign kept t place)

pub record Tested (xs kept : List ListOperand) (clash : Option ℕ) (tests : List Test) (place : Option ℕ) : Type 0 where
  pub none : (t : Test) → In t tests → (r : ListOperand) → In r kept → Before place r.at → Overlaps r t → owns_place t r.at ≡ true
  pub under : (n : ℕ) → Before place n → Before clash n
  pub cause : IsCause xs kept tests place
