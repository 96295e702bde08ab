-- What single forms say of an attribute: its class, and what it stores.
use Rattle.std.proofs.Common.{◌≡◌, ℕ, ℤ, pos, ◌<◌, ◌^◌, arith, false, List, refl, subst}
use Rattle.dwz_def_reading.specs.Spelling.{le_bytes}
use Rattle.dwz_def_reading.specs.Forms.{form_rows}
use Rattle.dwz_def_reading.specs.Classes.{OfInfoEntry}
use Rattle.dwz_def_reading.specs.Classes.{class_in, class_of, class_rows}
use Rattle.dwz_def_reading.specs.Classes.{names_list}
use Rattle.dwz_def_reading.specs.Values.{Number, Raw, SpellsShape, shape_of, written_rows}
use Rattle.dwz_def_reading.proofs.FixedLemmas.{fixed_written}
use Rattle.dwz_def_reading.specs.Rows.{has}

-- DW_FORM_ref_addr names an entry of .debug_info (DWARF 5, 7.5.5)
pub import_class : class_of 0x10 ≡ OfInfoEntry
unfolding class_rows class_in
import_class = refl

-- DW_AT_stmt_list is no attribute whose offset is that of a location list
pub no_list : names_list 0x10 ≡ false
unfolding has
no_list = refl

-- an offset of four bytes, as DW_FORM_sec_offset spells it
pub offset_spelled : (number : ℤ) (x : ℕ) → x < 2 ^ 32 → SpellsShape (shape_of written_rows 0x17) number (le_bytes 4 x) (Number (pos x))
unfolding form_rows
offset_spelled number x lt = record { content = x; spelled = fixed_written 4 x (omega (arith, lt)); value = refl }

-- DW_FORM_implicit_const stores what its declaration says
pub implicit_is : (form : ℕ) (number : ℤ) (bytes : List ℕ) (raw : Raw) → form ≡ 0x21 → SpellsShape (shape_of written_rows form) number bytes raw → raw ≡ Number number
unfolding form_rows
implicit_is form number bytes raw e is = (let is' = subst (λ (f : ℕ). SpellsShape (shape_of written_rows f) number bytes raw) e is in is'.value)
