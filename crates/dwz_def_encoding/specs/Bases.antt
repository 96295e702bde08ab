-- What the root of a unit says of slots of texts, of a line table and of location lists.
use Rattle.std.specs.Prelude.{ℕ, Option, Some, None, ◌==◌, if◌then◌else◌}
use Rattle.dwz_def_reading.specs.Spelling.{reach}
use Rattle.dwz_def_reading.specs.Documents.{Attr, DwUnit, first_named}
use Rattle.dwz_def_reading.specs.Meanings.{MeaningContext, loclists_base, stmt_list, str_offsets_base}

-- where the slots of the unit begin (DWARF 5, 7.26), its line table (3.1.1), and the offsets of its location lists (7.29), if it has them
pub record Bases : Type 0 where
  pub slots : Option ℕ
  pub line : Option ℕ
  pub lists : Option ℕ

-- a unit of which nothing is known
abbrev pub no_bases : Bases
no_bases = record { slots = None; line = None; lists = None }

-- the offset in an attribute of form sec_offset
abbrev pub offset_in : {K : Type 0} → Option (Attr K) → Option ℕ
offset_in None = None
offset_in (Some a) = if a.form == 0x17 then Some (reach a.raw) else None

-- the first DW_AT_str_offsets_base, DW_AT_stmt_list and DW_AT_loclists_base of a root
abbrev pub bases_in : {K : Type 0} → DwUnit K → Bases
bases_in u = record {
  slots = offset_in (first_named 0x72 u.root.attrs);
  line = offset_in (first_named 0x10 u.root.attrs);
  lists = offset_in (first_named 0x8c u.root.attrs);
}

-- the same where a unit is read
abbrev pub bases_of : {P : Type 0} → MeaningContext P → Bases
bases_of s = record { slots = str_offsets_base s; line = stmt_list s; lists = loclists_base s }
