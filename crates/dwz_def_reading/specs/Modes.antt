-- Files that may refer to a supplementary file (DWARF 5, 7.3.6), and may have partial units (3.1.1): which forms are read of them, and
-- where.
use Rattle.std.specs.Prelude.{ℕ, Bool, true, false, List, [], ◌∷◌, ◌==◌, not, if◌then◌else◌}
use Rattle.std.specs.List.{filter}
use Rattle.dwz_codes.specs.Forms.{form_rows}
use Rattle.dwz_codes.specs.Rows.{RowView, has}
use Rattle.dwz_def_reading.specs.Entries.{Mode}
use Rattle.dwz_def_reading.specs.Values.{written_rows}

-- addr, sec_offset, addrx, loclistx, rnglistx, addrx1 to addrx4 (7.5.6)
abbrev pub binding_forms : List ℕ
binding_forms = 0x01 ∷ 0x17 ∷ 0x1b ∷ 0x22 ∷ 0x23 ∷ 0x29 ∷ 0x2a ∷ 0x2b ∷ 0x2c ∷ []

-- the forms of a partial unit below its root: none binds
abbrev pub free_forms : List RowView → List RowView
free_forms rows = filter (λ row. not (has row.code binding_forms)) rows

-- those that lead to a supplementary file are read where one is at hand
abbrev pub forms_with : (sup : Bool) → List RowView
forms_with true = written_rows
forms_with false = form_rows

-- the forms of a unit whose root has that tag, of the root or below it; DW_TAG_partial_unit is 3c
abbrev pub forms_of_back : (sup : Bool) → (tag : ℕ) → (is_root : Bool) → List RowView
forms_of_back sup tag true = forms_with sup
forms_of_back sup tag false = if tag == 0x3c then free_forms (forms_with sup) else forms_with sup

-- a file that is read back, beside a supplementary file or without one: units of all types
abbrev pub of_back : (sup : Bool) → (entries : ℕ) → Mode
of_back sup entries = record { entries = entries; depth = 256; whole = true; partial = true; forms = forms_of_back sup }
