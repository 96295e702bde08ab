-- What changed numbers are spelled as, by the definitions.
use Rattle.std.proofs.Common.{◌≡◌, ℕ, true, false, List, [], ◌∷◌, map, Result, Ok, refl}
use Rattle.dwz_bytes.specs.Reading.{groups_at, sleb_at, uleb_at}
use Rattle.dwz_bytes.specs.Spelling.{le_bytes, padded}
use Rattle.dwz_codes.specs.ListKinds.{list_kind_rows}
use Rattle.dwz_codes.specs.Operators.{operator_rows}
use Rattle.dwz_model.specs.declared.fault.Fault.{Fault}
use Rattle.dwz_model.specs.declared.place.Base.TheVariants.{Unit as FromUnit, Info as FromInfo}
use Rattle.dwz_def_reading.specs.declared.exprs.Operand.{Operand}
use Rattle.dwz_def_reading.specs.Documents.{Part, Same}
use Rattle.dwz_def_reading.specs.Documents as document
use Rattle.dwz_def_reading.specs.Exprs.{any_address, any_operands, expr_within, expressions_in, fields_at, first_unnamed, joined_items, most_inside, op_at, operands_in, parts_from}
use Rattle.dwz_def_reading.specs.LocLists.{LocList, list_at, list_entry_at}
use Rattle.dwz_def_reading.specs.Patching.{filled, moved, renumbered, with_units, written_at}
use Rattle.dwz_def_reading.specs.PatchedLists.{list_with, with_operands}
use Rattle.dwz_def_reading.specs.Ranges.{RangeSet}
use Rattle.dwz_def_reading.specs.Sequences.{all_at, all_from, read_from, row_at, row_items_from}

-- convert in two bytes, and call_ref
abbrev parts : List Part
parts = Same (0xa8 ∷ []) ∷ document.Operand 2 true FromUnit ∷ Same (0x9f ∷ 0x9a ∷ []) ∷ document.Operand 4 false FromInfo ∷ Same [] ∷ []

both : filled parts (0x0d ∷ 0x1234 ∷ []) ≡ 0xa8 ∷ 0x8d ∷ 0 ∷ 0x9f ∷ 0x9a ∷ 0x34 ∷ 0x12 ∷ 0 ∷ 0 ∷ []
unfolding filled padded le_bytes
both = refl

-- an expression at 0x41 with an operand at 0x42, at 0x100 with another number
there : map (moved 0x41 0x100) (renumbered (record { at = 0x42; width = 2; uleb = true; base = FromUnit; number = 0x2a } ∷ []) (0x0d ∷ []))
    ≡ record { at = 0x101; width = 2; uleb = true; base = FromUnit; number = 0x0d } ∷ []
unfolding renumbered
there = refl

-- two sets, of units at 0 and 0x2b, and the same of units at 0x1000 and 0x31
abbrev sets : List RangeSet
sets = record { at = 0; unit = 0 } ∷ record { at = 12; unit = 0x2b } ∷ []

two : with_units sets (0x1000 ∷ 0x31 ∷ []) (8 ∷ 0 ∷ 0 ∷ 0 ∷ 2 ∷ 0 ∷ 0 ∷ 0 ∷ 0 ∷ 0 ∷ 8 ∷ 0 ∷ 12 ∷ 0 ∷ 0 ∷ 0 ∷ 2 ∷ 0 ∷ 0x2b ∷ 0 ∷ 0 ∷ 0 ∷ 8 ∷ 0 ∷ 9 ∷ 9 ∷ 9 ∷ 9 ∷ [])
    ≡ 8 ∷ 0 ∷ 0 ∷ 0 ∷ 2 ∷ 0 ∷ 0 ∷ 0x10 ∷ 0 ∷ 0 ∷ 8 ∷ 0 ∷ 12 ∷ 0 ∷ 0 ∷ 0 ∷ 2 ∷ 0 ∷ 0x31 ∷ 0 ∷ 0 ∷ 0 ∷ 8 ∷ 0 ∷ 9 ∷ 9 ∷ 9 ∷ 9 ∷ []
unfolding with_units written_at le_bytes
two = refl

-- in `.debug_loclists` a list at 0x0c: an offset pair with breg0 0, convert, stack_value; the operand is at 0x13
abbrev lists : ℕ → List ℕ
lists number = 0x12 ∷ 0 ∷ 0 ∷ 0 ∷ 5 ∷ 0 ∷ 8 ∷ 0 ∷ 0 ∷ 0 ∷ 0 ∷ 0 ∷ 4 ∷ 0 ∷ 4 ∷ 5 ∷ 0x70 ∷ 0 ∷ 0xa8 ∷ number ∷ 0x9f ∷ 0 ∷ []

abbrev operand : ℕ → Operand
operand number = record { at = 0x13; width = 1; uleb = true; base = FromUnit; number = number }

abbrev list : ℕ → LocList
list number = record { exprs = record { at = 0x10; bytes = 0x70 ∷ 0 ∷ 0xa8 ∷ number ∷ 0x9f ∷ []; operands = operand number ∷ []; address = false } ∷ []; end = 0x16 }

written : with_operands (operand 0x0d ∷ []) (lists 0x2a) ≡ lists 0x0d
unfolding with_operands written_at padded
written = refl

read : List ℕ → Result LocList Fault
unfolding operator_rows list_kind_rows uleb_at sleb_at groups_at expr_within most_inside fields_at op_at first_unnamed operands_in any_address joined_items expressions_in all_at all_from row_at
    row_items_from
    list_at list_entry_at
read section = read_from (list_at (any_operands 7)) section 0x0c

old : read (lists 0x2a) ≡ Ok (list 0x2a)
unfolding read
old = refl

new : read (lists 0x0d) ≡ Ok (list_with (λ place. 0x0d) (list 0x2a))
unfolding read filled parts_from padded
new = refl
