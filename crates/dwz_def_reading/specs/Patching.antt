-- Numbers changed in place: operands of expressions whose entries stand elsewhere (DWARF 5, 2.5 and 7.7.1), and address ranges whose
-- units do (6.1.2).
use Rattle.std.specs.Prelude.{◌≡◌, ℕ, ◌+◌, ◌-◌, ◌^◌, ◌<◌, Bool, true, false, List, [], ◌∷◌, ◌++◌, length, map, slice_set}
use Rattle.dwz_bytes.specs.Spelling.{le_bytes, padded}
use Rattle.dwz_def_reading.specs.declared.exprs.Operand.{Operand}
use Rattle.dwz_def_reading.specs.Documents.{Part, Same}
use Rattle.dwz_def_reading.specs.Documents as document
use Rattle.dwz_codes.specs.Rows.{has}
use Rattle.dwz_def_reading.specs.Exprs.{AreNamed, ExprContext, Expression, SpellsExpr, parts_of}
use Rattle.dwz_def_reading.specs.Meanings.{MeaningContext, entries_for, leads_to}
use Rattle.dwz_def_reading.specs.Ranges.{RangeSet}

-- a number in so many bytes: a padded ULEB128 number, or one of a fixed width
abbrev pub number_in_width : Bool → ℕ → ℕ → List ℕ
number_in_width true width number = padded width number
number_in_width false width number = le_bytes width number

-- the bytes of parts, with a number for each operand, in order
unfoldable pub filled : List Part → List ℕ → List ℕ
filled [] numbers = []
filled (Same bytes ∷ parts) numbers = bytes ++ filled parts numbers
filled (document.Operand width uleb base ∷ parts) [] = []
filled (document.Operand width uleb base ∷ parts) (n ∷ numbers) = number_in_width uleb width n ++ filled parts numbers

-- The number can stand in so many bytes. A ULEB128 number isn't 0, which names no entry in the operators that convert types (2.5.1.6),
-- but stands for the generic type; no entry is at the place that 0 would name.
abbrev pub FitsIn : Bool → ℕ → ℕ → Type 0
FitsIn true width number = (0 < number) × (number < 128 ^ width) × (number < 2 ^ 64)
FitsIn false width number = number < 256 ^ width

-- the operands with these numbers, in order
unfoldable pub renumbered : List Operand → List ℕ → List Operand
renumbered [] numbers = []
renumbered (o ∷ operands) [] = []
renumbered (o ∷ operands) (n ∷ numbers) = record { at = o.at; width = o.width; uleb = o.uleb; base = o.base; number = n }
    ∷ renumbered operands numbers

abbrev pub AllFit : List Operand → Type 0
AllFit [] = Unit {0}
AllFit (o ∷ operands) = FitsIn o.uleb o.width o.number × AllFit operands

-- an operand of bytes that began at a place and begin at another
abbrev pub moved : ℕ → ℕ → Operand → Operand
moved from to o = record { at = to + (o.at - from); width = o.width; uleb = o.uleb; base = o.base; number = o.number }

-- the expression at a place, with these numbers in its operands
abbrev pub patched_expr : ℕ → Expression → List ℕ → Expression
patched_expr at e numbers =
    record {
      at = at;
      bytes = filled (parts_of e) numbers;
      operands = map (moved e.at at) (renumbered e.operands numbers);
      address =
          e.address;
    }

-- there is a number for each operand that fits and names an entry
pub record CanPatch (c : ExprContext) (at : ℕ) (e : Expression) (numbers : List ℕ) : Type 0 where
  pub as_many : length numbers ≡ length e.operands
  pub fit : AllFit (renumbered e.operands numbers)
  pub named : AreNamed c.names (map (moved e.at at) (renumbered e.operands numbers))

-- ---- values

-- an expression that is spelled somewhere has these parts, and an address or none
pub record AreParts (parts : List Part) (address : Bool) : Type 0 where
  pub context : ExprContext
  pub expression : Expression
  pub start : ℕ
  pub bytes : List ℕ
  pub spelled : SpellsExpr context expression start bytes
  pub are : parts ≡ parts_of expression
  pub addressed : address ≡ expression.address

-- each operand of the parts has a number that fits and leads to an entry; these entries, in order
abbrev pub LeadTo : {P : Type 0} → MeaningContext P → List Part → List ℕ → List P → Type 0
LeadTo s [] [] [] = Unit {0}
LeadTo s (Same bytes ∷ parts) numbers refs = LeadTo s parts numbers refs
LeadTo s (document.Operand width uleb base ∷ parts) (n ∷ numbers) (p ∷ refs) =
    FitsIn uleb width n × (has (leads_to s base n) (entries_for s base) ≡ true) × (p ≡ s.around.place (leads_to s base n))
    × LeadTo s parts numbers refs
LeadTo s _ _ _ = ⊥

-- ---- sets of address ranges

-- these bytes written over others, one behind the other from a place on; the others stay
unfoldable pub written_at : ℕ → List ℕ → List ℕ → List ℕ
written_at at [] bytes = bytes
written_at at (b ∷ new) bytes = written_at (at + 1) new (slice_set bytes at b)

-- a number for each set, in order, in place of its debug_info_offset: four bytes, behind unit_length and version
unfoldable pub with_units : List RangeSet → List ℕ → List ℕ → List ℕ
with_units (set ∷ sets) (n ∷ numbers) bytes = with_units sets numbers (written_at (set.at + 6) (le_bytes 4 n) bytes)
with_units _ _ bytes = bytes

-- the sets, each of another unit
unfoldable pub of_units : List RangeSet → List ℕ → List RangeSet
of_units (set ∷ sets) (n ∷ numbers) = record { at = set.at; unit = n } ∷ of_units sets numbers
of_units _ _ = []

-- each has four bytes and is the offset of a unit
abbrev pub AreUnits : (ℕ → Bool) → List ℕ → Type 0
AreUnits is_unit [] = Unit {0}
AreUnits is_unit (n ∷ numbers) = (n < 2 ^ 32) × (is_unit n ≡ true) × AreUnits is_unit numbers
