-- Location lists that attributes name, as they are kept.
use Rattle.std.specs.Prelude.{◌≡◌, ℕ, ◌+◌, ◌-◌, ◌<◌, ◌≤◌, List, [], ◌++◌, length, map, Some, Ok, slice_index, slice_range}
use Rattle.dwz_model.specs.declared.place.Base.{Base}
use Rattle.dwz_model.specs.declared.place.Base.TheVariants.{Unit as FromUnit, Info as FromInfo}
use Rattle.dwz_def_reading.specs.Lists.{In}
use Rattle.dwz_def_reading.specs.Units.{RawUnit, entries_in}
use Rattle.dwz_def_reading.specs.declared.exprs.Operand.{Operand}
use Rattle.dwz_def_reading.specs.LocLists.{LocList}
use Rattle.dwz_def_reading.specs.Shared.{AreRows, HasByte, ListOperand, NamedList, OneOf, none_shared, of_unit, operands_of}
use Rattle.dwz_graph_resolve.specs.declared.lists.ListRow.{ListRow}
use Rattle.dwz_graph_resolve.specs.declared.lists.Lists.{Lists}
use Rattle.dwz_graph_resolve.specs.declared.operands.ListOperand.{ListOperand as OperandOfCode}
use Rattle.dwz_graph_resolve.specs.Apart.{Rows, Test}
use Rattle.dwz_graph_resolve.specs.Places.{place_at}

-- ---- operands

-- where the unit with a number begins
abbrev pub start_of : List RawUnit → ℕ → ℕ
start_of raw n = slice_index (map (λ u. u.at) raw) n

-- units of different numbers begin at different places
abbrev pub AreDistinct : List RawUnit → Type 0
AreDistinct raw = (m n : ℕ) → m < length raw → n < length raw → start_of raw m ≡ start_of raw n → m ≡ n

-- the number that names the entry at an offset
abbrev pub number_for : Base → ℕ → ℕ → ℕ
number_for FromUnit start offset = offset - start
number_for FromInfo start offset = offset

-- an operand, as the definitions see it
abbrev pub operand_view : List RawUnit → OperandOfCode → ListOperand
operand_view raw o = record {
  unit = start_of raw o.unit;
  operand = record {
    at = o.at;
    width = o.width;
    uleb = o.uleb;
    base = o.base;
    number = number_for o.base (start_of raw o.unit)
        o.place.offset;
  };
}

-- ---- lists

-- the row of a list whose operands stand behind so many others
abbrev pub raised : ℕ → ListRow → ListRow
raised n w = record w { first = n + w.first; last = n + w.last }

-- the own operands of a list that is kept
abbrev pub own_rows : List OperandOfCode → ListRow → List OperandOfCode
own_rows operands w = slice_range operands w.first w.last

abbrev pub row_test : List OperandOfCode → ListRow → Test
row_test operands w = record { from = w.from; end = w.end; own = own_rows operands w }

abbrev pub slot_test : ℕ → Test
slot_test slot = record { from = slot; end = slot + 4; own = [] }

abbrev pub tests_of : Lists → List Test
tests_of lists = map (row_test lists.operands.items) lists.rows.items ++ map slot_test lists.slots.items

-- the numbers of its operands are those of some
abbrev pub IsWithin : List OperandOfCode → ListRow → Type 0
IsWithin operands w = (w.first ≤ w.last) × (w.last ≤ length operands)

abbrev pub AreWithin : Lists → Type 0
AreWithin lists = (w : ListRow) → In w lists.rows.items → IsWithin lists.operands.items w

-- A list that a unit names, from the place from which its entries were read, and up to where others were read before: its operands that have
-- a byte there are the row's own.
pub record IsPieceOf (raw : List RawUnit) (operands : List OperandOfCode) (unit place : ℕ) (list : LocList) (w : ListRow) : Type 0 where
  pub from : w.from ≡ place
  pub end : w.end ≤ list.end
  pub own : (p : Operand) → In p (operands_of list.exprs) → (b : ℕ) → HasByte p b → b < w.end → OneOf (own_rows operands w)
      (λ o. operand_view raw o ≡ of_unit unit p)
  pub others : (o : OperandOfCode) → In o (own_rows operands w) → OneOf (operands_of list.exprs) (λ p. of_unit unit p ≡ operand_view raw o)

-- a byte of a list is in that row, whose operands with this byte are the list's
pub record HasRow (raw : List RawUnit) (operands : List OperandOfCode) (unit : ℕ) (own : List Operand) (b : ℕ) (w : ListRow) : Type 0 where
  pub low : w.from ≤ b
  pub high : b < w.end
  pub others : (o : OperandOfCode) → In o (own_rows operands w) → HasByte (operand_view raw o).operand b → OneOf own (λ p. of_unit unit p ≡ operand_view raw o)

-- a list that a unit names is kept: its operands, and each of its bytes in a row
pub record IsKept (raw : List RawUnit) (rows : List ListRow) (operands : List OperandOfCode) (unit from : ℕ) (list : LocList) : Type 0 where
  pub own : (p : Operand) → In p (operands_of list.exprs) → OneOf operands (λ o. operand_view raw o ≡ of_unit unit p)
  pub bytes : (b : ℕ) → from ≤ b → b < list.end → OneOf rows (HasRow raw operands unit (operands_of list.exprs) b)

-- its unit and its entry are of the file with that number, and the entry stands at its place
pub record IsOfFile (raw : List RawUnit) (number : ℕ) (o : OperandOfCode) : Type 0 where
  pub unit : o.unit < length raw
  pub entry : o.entry < entries_in raw
  pub at : place_at raw o.entry ≡ o.place.offset
  pub file : o.place.file ≡ number

abbrev pub AreOfFile : List RawUnit → ℕ → List OperandOfCode → Type 0
AreOfFile raw file rows = (o : OperandOfCode) → In o rows → IsOfFile raw file o

-- these lists of the file with that number are kept, and no others: each row is a part of one
pub record Shows (raw : List RawUnit) (file : ℕ) (named : List NamedList) (lists : Lists) : Type 0 where
  pub within : AreWithin lists
  pub rows : (l : NamedList) → In l named → IsKept raw lists.rows.items lists.operands.items l.unit l.from l.list
  pub lists_of : (w : ListRow) → In w lists.rows.items → OneOf named (λ l. IsPieceOf raw lists.operands.items l.unit l.from l.list w)
  pub slots : (l : NamedList) (slot : ℕ) → In l named → l.slot ≡ Some slot → In slot lists.slots.items
  pub slots_of : (slot : ℕ) → In slot lists.slots.items → OneOf named (λ l. l.slot ≡ Some slot)
  pub operands_of : (o : OperandOfCode) → In o lists.operands.items → OneOf lists.rows.items (λ w. In o (own_rows lists.operands.items w))
  pub of_file : AreOfFile raw file lists.operands.items
  pub stand : (w : ListRow) → In w lists.rows.items → Rows (w.from + 1) (own_rows lists.operands.items w) w.end

-- no list is shared, and these are the operands
abbrev pub AreUnshared : List RawUnit → ℕ → List NamedList → List OperandOfCode → Type 0
AreUnshared raw file named rows = (none_shared named ≡ Ok tt) × AreRows named (map (operand_view raw) rows) × AreOfFile raw file rows
