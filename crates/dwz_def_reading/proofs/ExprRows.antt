-- What small expressions, lists, line tables and sets say, by the definitions.
use Rattle.std.proofs.Common.{◌≡◌, ℕ, pos, ◌+◌, Bool, true, false, List, [], ◌∷◌, ◌++◌, Some, None, Result, Ok, Err, map, refl}
use Rattle.std.specs.Prelude.{codes}
use Rattle.dwz_model.specs.declared.fault.Fault.{Fault}
use Rattle.dwz_model.specs.declared.fault.Reason.{Reason}
use Rattle.dwz_model.specs.declared.fault.Reason.TheVariants.{BadExpr, BadFile, BadLineTable, BadList, BadOperand, UnsupportedOp}
use Rattle.dwz_model.specs.declared.place.Base.TheVariants.{Unit as FromUnit, Info as FromInfo}
use Rattle.dwz_bytes.specs.Reading.{groups_at, sleb_at, uleb_at}
use Rattle.dwz_codes.specs.Forms.{form_rows}
use Rattle.dwz_codes.specs.ListKinds.{list_kind_rows}
use Rattle.dwz_codes.specs.Operators.{operator_rows}
use Rattle.dwz_def_reading.specs.Documents.{Expr, File, Loc, Same, Value, only}
use Rattle.dwz_def_reading.specs.Documents as document
use Rattle.dwz_def_reading.specs.Entries.{RawAttr}
use Rattle.dwz_def_reading.specs.Exprs.{expr_within, fields_at, first_unnamed, any_address, joined_items, most_inside, op_at, operands_in, expressions_in, parts_from}
use Rattle.dwz_def_reading.specs.Faults.{info_fault}
use Rattle.dwz_def_reading.specs.LineTables.{file_table_at, nth_path, rows_said, tables_at, values_at}
use Rattle.dwz_def_reading.specs.LocLists.{list_at, list_entry_at}
use Rattle.dwz_def_reading.specs.Meanings.{MeaningContext, first_raw, has}
use Rattle.dwz_def_reading.specs.Classes.{class_in, class_rows}
use Rattle.dwz_def_reading.specs.Meant.{meaning}
use Rattle.dwz_def_reading.specs.Sequences.{all_at, all_from, row_at, row_items_from, times_at}
use Rattle.dwz_def_reading.specs.Shared.{operands_of}
use Rattle.dwz_def_reading.specs.Texts.{text_in}
use Rattle.dwz_def_reading.specs.Values.{Bytes, Number, Raw, shaped_at}

abbrev stored : ℕ → ℕ → ℕ → Raw → RawAttr
stored end name form raw = record { at = 0x40; end = end; pair = record { name = name; form = form; constant = pos 0 }; raw = raw }

abbrev number : ℕ → Raw
number n = Number (pos n)

-- a line table with the directories "/usr" and "include", and the files "a.c" in the first and "b.h" in the second
abbrev line : List ℕ
line =
    0x3b ∷ 0 ∷ 0 ∷ 0 ∷ 5 ∷ 0 ∷ 8 ∷ 0 ∷ 0x33 ∷ 0 ∷ 0 ∷ 0 ∷ 1 ∷ 1 ∷ 1 ∷ 0xfb ∷ 0x0e ∷ 0x0d
    ∷ 0 ∷ 1 ∷ 1 ∷ 1 ∷ 1 ∷ 0 ∷ 0 ∷ 0 ∷ 1 ∷ 0 ∷ 0 ∷ 1
    ∷ 1 ∷ 1 ∷ 8 ∷ 2 ∷ codes "/usr" ++ 0 ∷ codes "include" ++ 0
    ∷ 2 ∷ 1 ∷ 8 ∷ 2 ∷ 0x0b ∷ 2 ∷ codes "a.c" ++ 0 ∷ 0 ∷ codes "b.h" ++ 0 ∷ 1 ∷ []

-- in `.debug_loclists` a list at 0x0c: an offset pair with breg0 0, convert 2a, stack_value
abbrev lists : List ℕ
lists = 0x12 ∷ 0 ∷ 0 ∷ 0 ∷ 5 ∷ 0 ∷ 8 ∷ 0 ∷ 0 ∷ 0 ∷ 0 ∷ 0 ∷ 4 ∷ 0 ∷ 4 ∷ 5 ∷ 0x70 ∷ 0 ∷ 0xa8 ∷ 0x2a ∷ 0x9f ∷ 0 ∷ []

-- a unit at 0 with entries at 0x0d, 0x2a and 0x31
abbrev scope : List RawAttr → MeaningContext ℕ
scope attrs = record {
  around = record {
    sources = record { strs = []; line_strs = []; offsets = []; line = line; lists = lists };
    all = 0x0c ∷ 0x0d ∷ 0x2a ∷ 0x31 ∷ 0x50 ∷ [];
    place = λ n. n;
    common = None;
  };
  unit = 0;
  root = record { at = 0x0c; tag = 0x11; children = true; attrs = attrs };
  own = 0x0c ∷ 0x0d ∷ 0x2a ∷ 0x31 ∷ [];
}

means : List RawAttr → RawAttr → Result (Value ℕ) Fault
unfolding meaning class_in class_rows first_raw has text_in operator_rows list_kind_rows form_rows uleb_at sleb_at groups_at shaped_at expr_within most_inside fields_at op_at first_unnamed operands_in
    any_address joined_items expressions_in parts_from all_at all_from row_at row_items_from list_at list_entry_at operands_of file_table_at tables_at times_at values_at rows_said nth_path
means root a = meaning (scope root) a

-- an expression of so many bytes at 0x41
abbrev exprloc : List ℕ → Result (Value ℕ) Fault
exprloc bytes = means [] (stored (0x41 + Rattle.std.specs.Prelude.length bytes) 0x02 0x18 (Bytes bytes))

abbrev fault : ℕ → ℕ → Reason → Result (Value ℕ) Fault
fault section at reason = Err (record { section = section; at = at; reason = reason })

empty : exprloc [] ≡ Ok (only (Expr (Same [] ∷ [])))
unfolding means
empty = refl

frame : exprloc (0x91 ∷ 0x6c ∷ []) ≡ Ok (only (Expr (Same (0x91 ∷ 0x6c ∷ []) ∷ [])))
unfolding means
frame = refl

-- convert 2a, padded to two bytes; and call_ref 0x50, an entry of another unit
convert : exprloc (0xa8 ∷ 0xaa ∷ 0 ∷ 0x9f ∷ []) ≡ Ok (record { plain = Expr (Same (0xa8 ∷ []) ∷ document.Operand 2 true FromUnit ∷ Same (0x9f ∷ []) ∷ []); refs = 0x2a ∷ []; address = false })
unfolding means
convert = refl

generic : exprloc (0xa8 ∷ 0 ∷ []) ≡ Ok (only (Expr (Same (0xa8 ∷ 0 ∷ []) ∷ [])))
unfolding means
generic = refl

call_ref : exprloc (0x9a ∷ 0x50 ∷ 0 ∷ 0 ∷ 0 ∷ []) ≡ Ok (record { plain = Expr (Same (0x9a ∷ []) ∷ document.Operand 4 false FromInfo ∷ Same [] ∷ []); refs = 0x50 ∷ []; address = false })
unfolding means
call_ref = refl

-- call4 of an entry of another unit: the operand is at fault, and comes before the operator that isn't read behind it
call4 : exprloc (0x99 ∷ 0x50 ∷ 0 ∷ 0 ∷ 0 ∷ 0x98 ∷ []) ≡ fault 1 0x42 BadOperand
unfolding means
call4 = refl

call2 : exprloc (0x96 ∷ 0x98 ∷ 0 ∷ 0 ∷ []) ≡ fault 1 0x42 (UnsupportedOp 0x98)
unfolding means
call2 = refl

cut_off : exprloc (0x96 ∷ 0x03 ∷ 0 ∷ []) ≡ fault 1 0x42 BadExpr
unfolding means
cut_off = refl

-- in an entry_value, an operand; and one inside that isn't whole
inside : exprloc (0xa3 ∷ 2 ∷ 0xa8 ∷ 0x2a ∷ 0x9f ∷ []) ≡ Ok (record { plain = Expr (Same (0xa3 ∷ 2 ∷ 0xa8 ∷ []) ∷ document.Operand 1 true FromUnit ∷ Same (0x9f ∷ []) ∷ []); refs = 0x2a ∷ []; address = false })
unfolding means
inside = refl

cut_inside : exprloc (0xa3 ∷ 1 ∷ 0xa8 ∷ 0x2a ∷ []) ≡ fault 1 0x43 BadExpr
unfolding means
cut_inside = refl

-- ---- addresses

abbrev said_address : Result (Value ℕ) Fault → Bool
said_address (Ok v) = v.address
said_address (Err f) = false

-- fbreg -20 and none at all; const1u, whose byte is the code of addr; addr, addrx, constx, and an addrx in an entry_value behind
-- another operator
addresses : map (λ bytes. said_address (exprloc bytes)) (
    (0x91 ∷ 0x6c ∷ []) ∷ [] ∷ (0x08 ∷ 0x03 ∷ [])
    ∷ (0x03 ∷ 0 ∷ 0x40 ∷ 0x40 ∷ 0 ∷ 0 ∷ 0 ∷ 0 ∷ 0 ∷ []) ∷ (0xa1 ∷ 0 ∷ []) ∷ (0xa2 ∷ 0 ∷ 0x9f ∷ []) ∷ (0x50 ∷ 0xa3 ∷ 2 ∷ 0xa1 ∷ 5 ∷ []) ∷ []
    )
    ≡ false ∷ false ∷ false ∷ true ∷ true ∷ true ∷ true ∷ []
unfolding means
addresses = refl

-- the whole value
with_address : exprloc (0x03 ∷ 0 ∷ 0x10 ∷ 0 ∷ 0 ∷ 0 ∷ 0 ∷ 0 ∷ 0 ∷ []) ≡ Ok (record { plain = Expr (Same (0x03 ∷ 0 ∷ 0x10 ∷ 0 ∷ 0 ∷ 0 ∷ 0 ∷ 0 ∷ 0 ∷ []) ∷ []); refs = []; address = true })
unfolding means
with_address = refl

-- ---- inside one another

-- eight inside one another, and nine
eight : exprloc (0xa3 ∷ 14 ∷ 0xa3 ∷ 12 ∷ 0xa3 ∷ 10 ∷ 0xa3 ∷ 8 ∷ 0xa3 ∷ 6 ∷ 0xa3 ∷ 4 ∷ 0xa3 ∷ 2 ∷ 0xa3 ∷ 0 ∷ [])
    ≡ Ok (only (Expr (Same (0xa3 ∷ 14 ∷ 0xa3 ∷ 12 ∷ 0xa3 ∷ 10 ∷ 0xa3 ∷ 8 ∷ 0xa3 ∷ 6 ∷ 0xa3 ∷ 4 ∷ 0xa3 ∷ 2 ∷ 0xa3 ∷ 0 ∷ []) ∷ [])))
unfolding means
eight = refl

nine : exprloc (0xa3 ∷ 16 ∷ 0xa3 ∷ 14 ∷ 0xa3 ∷ 12 ∷ 0xa3 ∷ 10 ∷ 0xa3 ∷ 8 ∷ 0xa3 ∷ 6 ∷ 0xa3 ∷ 4 ∷ 0xa3 ∷ 2 ∷ 0xa3 ∷ 0 ∷ []) ≡ fault 1 0x51 BadExpr
unfolding means
nine = refl

-- ---- lists

list : means [] (stored 0x44 0x02 0x17 (number 0x0c)) ≡ Ok (record { plain = Loc ((Same (0x70 ∷ 0 ∷ 0xa8 ∷ []) ∷ document.Operand 1 true FromUnit ∷ Same (0x9f ∷ []) ∷ []) ∷ []); refs = 0x2a ∷ []; address = false })
unfolding means
list = refl

-- at 0x15 an empty list; behind it nothing; at 0x10 no kind
no_list : means [] (stored 0x44 0x02 0x17 (number 0x15)) ≡ Ok (only (Loc []))
unfolding means
no_list = refl

outside : means [] (stored 0x44 0x02 0x17 (number 0x16)) ≡ Err (info_fault 0x40 BadList)
unfolding means
outside = refl

no_kind : means [] (stored 0x44 0x02 0x17 (number 0x10)) ≡ fault 7 0x10 BadList
unfolding means
no_kind = refl

-- loclistx: the slot at 8 holds 0, so the list is at the base, and the number in the slot there is no kind; another slot is cut off
loclistx : means (stored 0x30 0x8c 0x17 (number 8) ∷ []) (stored 0x41 0x02 0x22 (number 0)) ≡ Ok (only (Loc []))
unfolding means
loclistx = refl

no_slot : means (stored 0x30 0x8c 0x17 (number 0x13) ∷ []) (stored 0x41 0x02 0x22 (number 0)) ≡ Err (info_fault 0x40 BadList)
unfolding means
no_slot = refl

-- ---- files

abbrev with_lines : List RawAttr
with_lines = stored 0x30 0x10 0x17 (number 0) ∷ []

row_0 : means with_lines (stored 0x41 0x3a 0x0b (number 0)) ≡ Ok (only (File (Some (codes "/usr/a.c"))))
unfolding means
row_0 = refl

row_1 : means with_lines (stored 0x41 0x3a 0x0b (number 1)) ≡ Ok (only (File (Some (codes "/usr/include/b.h"))))
unfolding means
row_1 = refl

no_row : means with_lines (stored 0x41 0x3a 0x0b (number 2)) ≡ Err (info_fault 0x40 BadFile)
unfolding means
no_row = refl

no_table : means (stored 0x30 0x10 0x17 (number 1) ∷ []) (stored 0x41 0x3a 0x0b (number 0)) ≡ fault 6 1 BadLineTable
unfolding means
no_table = refl
