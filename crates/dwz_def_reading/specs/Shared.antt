-- Location lists that share bytes with operands of others, so that their numbers can't be changed one by one.
use Rattle.std.specs.Prelude.{◌≡◌, ◌⊎◌, ℕ, zero, suc, ◌+◌, ◌<◌, ◌≤◌, Bool, true, false, List, [], ◌∷◌, ◌++◌, map, Option, Some, None}
use Rattle.std.specs.Prelude.{Result, Ok, Err, min, ◌==◌, ◌&&◌, ◌||◌, not, nat_lt, if◌then◌else◌}
use Rattle.std.specs.List.{list_any}
use Rattle.dwz_model.specs.declared.fault.Fault.{Fault}
use Rattle.dwz_model.specs.declared.fault.Reason.TheVariants.{SharedList}
use Rattle.dwz_model.specs.declared.place.Base.{Base}
use Rattle.dwz_model.specs.declared.place.Base.TheVariants.{Unit as FromUnit, Info as FromInfo}
use Rattle.dwz_def_reading.specs.declared.exprs.Operand.{Operand}
use Rattle.dwz_def_reading.specs.Exprs.{Expression}
use Rattle.dwz_model.specs.Lists.{In}
use Rattle.dwz_def_reading.specs.LocLists.{LocList}

-- a list that an attribute names: the attribute's unit, where the list begins, where the slot stands that says so, if one does, and
-- the list
pub record NamedList : Type 0 where
  pub unit : ℕ
  pub from : ℕ
  pub slot : Option ℕ
  pub list : LocList

unfoldable pub operands_of : List Expression → List Operand
operands_of [] = []
operands_of (e ∷ exprs) = e.operands ++ operands_of exprs

abbrev pub own_operands : NamedList → List Operand
own_operands l = operands_of l.list.exprs

-- an operand of a list, with the unit of the attribute that names the list
pub record ListOperand : Type 0 where
  pub unit : ℕ
  pub operand : Operand

abbrev pub of_unit : ℕ → Operand → ListOperand
of_unit unit o = record { unit = unit; operand = o }

-- the operands of all lists
unfoldable pub operands_in_lists : List NamedList → List ListOperand
operands_in_lists [] = []
operands_in_lists (l ∷ lists) = map (of_unit l.unit) (own_operands l) ++ operands_in_lists lists

-- ---- the relation

-- the byte at a place is one of the operand
abbrev pub HasByte : Operand → ℕ → Type 0
HasByte o b = (o.at ≤ b) × (b < o.at + o.width)

-- one place, width, spelling and base, and one unit
pub record IsSame (o p : ListOperand) : Type 0 where
  pub unit : o.unit ≡ p.unit
  pub at : o.operand.at ≡ p.operand.at
  pub width : o.operand.width ≡ p.operand.width
  pub uleb : o.operand.uleb ≡ p.operand.uleb
  pub base : o.operand.base ≡ p.operand.base

-- two operands that aren't the same have a byte in common; the other one begins no later
pub record Clashes (o p : ListOperand) : Type 0 where
  pub later : p.operand.at ≤ o.operand.at
  pub shared : (b : ℕ) × HasByte o.operand b × HasByte p.operand b
  pub differ : IsSame o p → ⊥

-- the list reads a byte of the operand, and this byte is in none of its own operands
pub record ReadsInside (o : Operand) (l : NamedList) : Type 0 where
  pub byte : ℕ
  pub has : HasByte o byte
  pub from : l.from ≤ byte
  pub to : byte < l.list.end
  pub others : (p : Operand) → In p (own_operands l) → HasByte p byte → ⊥

-- the four bytes of a slot have a byte of the operand
pub record IsInSlot (o : Operand) (l : NamedList) : Type 0 where
  pub slot : ℕ
  pub is_slot : l.slot ≡ Some slot
  pub byte : ℕ
  pub has : HasByte o byte
  pub from : slot ≤ byte
  pub to : byte < slot + 4

abbrev pub OneOf : {X : Type 0} → List X → (X → Type 0) → Type 0
OneOf {X} xs P = (x : X) × In x xs × P x

-- another operand, a list or a slot shares a byte with the operand
abbrev pub IsShared : List NamedList → ListOperand → Type 0
IsShared lists o =
    OneOf (operands_in_lists lists) (Clashes o)
    ⊎ (OneOf lists (ReadsInside o.operand)
    ⊎ OneOf lists (IsInSlot o.operand))

-- an operand that shares a byte begins there
abbrev pub IsSharedAt : List NamedList → ℕ → Type 0
IsSharedAt lists place = OneOf (operands_in_lists lists) (λ o. (place ≡ o.operand.at) × IsShared lists o)

abbrev pub NoneShared : List NamedList → Type 0
NoneShared lists = (place : ℕ) → IsSharedAt lists place → ⊥

-- a shared list at a place of `.debug_loclists`
abbrev pub shared_list : ℕ → Fault
shared_list at = record { section = 7; at = at; reason = SharedList }

-- the least of these places
pub record IsSharedFault (lists : List NamedList) (f : Fault) : Type 0 where
  pub place : ℕ
  pub shared : IsSharedAt lists place
  pub least : (other : ℕ) → IsSharedAt lists other → place ≤ other
  pub placed : f ≡ shared_list place

-- ---- the function

unfoldable pub byte_places : ℕ → ℕ → List ℕ
byte_places at zero = []
byte_places at (suc n) = at ∷ byte_places (suc at) n

-- one of the operand's bytes passes a test
abbrev pub any_byte : Operand → (ℕ → Bool) → Bool
any_byte o test = list_any test (byte_places o.at o.width)

abbrev pub is_within : ℕ → ℕ → ℕ → Bool
is_within from to b = not (nat_lt b from) && nat_lt b to

abbrev pub has_byte : ℕ → Operand → Bool
has_byte b o = is_within o.at (o.at + o.width) b

abbrev pub same_base : Base → Base → Bool
same_base FromUnit FromUnit = true
same_base FromInfo FromInfo = true
same_base _ _ = false

abbrev pub same_truth : Bool → Bool → Bool
same_truth true b = b
same_truth false b = not b

abbrev pub is_same : ListOperand → ListOperand → Bool
is_same o p =
    o.unit == p.unit
    && (o.operand.at == p.operand.at
    && (o.operand.width == p.operand.width
    && (same_truth o.operand.uleb p.operand.uleb
    && same_base o.operand.base p.operand.base)))

abbrev pub clashes : ListOperand → ListOperand → Bool
clashes o p = not (nat_lt o.operand.at p.operand.at) && (any_byte o.operand (λ b. has_byte b p.operand) && not (is_same o p))

abbrev pub reads_inside : Operand → NamedList → Bool
reads_inside o l = any_byte o (λ b. is_within l.from l.list.end b && not (list_any (has_byte b) (own_operands l)))

abbrev pub slot_has : Operand → Option ℕ → Bool
slot_has o None = false
slot_has o (Some slot) = any_byte o (is_within slot (slot + 4))

abbrev pub is_shared : List NamedList → ListOperand → Bool
is_shared lists o = list_any (clashes o) (operands_in_lists lists)
    || (list_any (reads_inside o.operand) lists || list_any (λ l. slot_has o.operand l.slot) lists)

-- the lesser of a place and of another, if there is one
abbrev pub lesser : ℕ → Option ℕ → ℕ
lesser place None = place
lesser place (Some other) = min place other

-- the least place of the operands that pass a test
unfoldable pub least_place : (ListOperand → Bool) → List ListOperand → Option ℕ
least_place test [] = None
least_place test (o ∷ operands) = if test o then Some (lesser o.operand.at (least_place test operands)) else least_place test operands

abbrev pub unless_shared : Option ℕ → Result (Unit {0}) Fault
unless_shared None = Ok tt
unless_shared (Some place) = Err (shared_list place)

unfoldable pub none_shared : List NamedList → Result (Unit {0}) Fault
none_shared lists = unless_shared (least_place (is_shared lists) (operands_in_lists lists))

-- ---- what a pass over operands in order of place tests

-- each begins no earlier than the one before it, and isn't the same
abbrev pub Ascend : List ListOperand → Type 0
Ascend [] = Unit {0}
Ascend (o ∷ []) = Unit {0}
Ascend (o ∷ p ∷ rows) = ((o.operand.at ≤ p.operand.at) × (IsSame o p → ⊥)) × Ascend (p ∷ rows)

-- the operands of the lists in order of place; those that are the same stand there once
pub record AreRows (lists : List NamedList) (rows : List ListOperand) : Type 0 where
  pub from : (o : ListOperand) → In o rows → In o (operands_in_lists lists)
  pub all : (o : ListOperand) → In o (operands_in_lists lists) → OneOf rows (λ r. IsSame r o)
  pub ascend : Ascend rows
  pub some : (o : ListOperand) → In o rows → 0 < o.operand.width

-- each ends where the next one begins, or before
abbrev pub StandApart : List ListOperand → Type 0
StandApart [] = Unit {0}
StandApart (o ∷ []) = Unit {0}
StandApart (o ∷ p ∷ rows) = (o.operand.at + o.operand.width ≤ p.operand.at) × StandApart (p ∷ rows)

-- The rows stand apart; a row that has a byte of a list is one of that list's own; and no row has a byte of a slot. A pass over the rows
-- tests this: the rows of a list, or of a slot, are those from the first that ends behind where it begins.
pub record PassesOver (lists : List NamedList) (rows : List ListOperand) : Type 0 where
  pub apart : StandApart rows
  pub owned : (o : ListOperand) (l : NamedList) → In o rows → In l lists → o.operand.at < l.list.end
      → l.from < o.operand.at + o.operand.width → OneOf (own_operands l) (λ p. IsSame (of_unit l.unit p) o)
  pub free : (o : ListOperand) (l : NamedList) (slot : ℕ) → In o rows → In l lists → l.slot ≡ Some slot → o.operand.at < slot + 4
      → slot < o.operand.at + o.operand.width → ⊥
