-- The bytes of new units, once all copies have their places (DWARF 5, 7.5).
use Rattle.std.specs.Prelude.{ℕ, ◌+◌, ◌-◌, List, [], ◌∷◌, ◌++◌, fold, slice_index, slice_index_or}
use Rattle.dwz_bytes.specs.Spelling.{le_bytes}
use Rattle.dwz_layout.specs.Attributes.{Numbers}
use Rattle.dwz_encode.specs.Pages.{entry_page, numbers_in}
use Rattle.dwz_expand_layout.specs.declared.entries.NewKind.{NewKind}
use Rattle.dwz_expand_layout.specs.declared.entries.NewKind.TheVariants.{Compile, OfType}
use Rattle.dwz_expand_layout.specs.declared.layout.LaidUnit.{LaidUnit}
use Rattle.dwz_expand_layout.specs.declared.numbers.Numbers.{Numbers as NumbersOfCode}
use Rattle.dwz_expand_layout.specs.Entries.{NewLine, UnitLines, line_call}
use Rattle.dwz_expand_layout.specs.Laid.{Made}

abbrev pub numbers_view : NumbersOfCode → Numbers
numbers_view n = numbers_in n.places.now [] n.unit

-- ---- headers

-- DW_UT_compile, DW_UT_type
abbrev pub kind_byte : NewKind → ℕ
kind_byte Compile = 1
kind_byte (OfType signature main) = 2

-- a type unit has its signature and the offset of its type besides
abbrev pub kind_page : Numbers → NewKind → List ℕ
kind_page n Compile = []
kind_page n (OfType signature main) = le_bytes 8 signature ++ le_bytes 4 (slice_index n.places main - n.unit)

-- the length without its own 4 bytes, version 5, the type, address size 8, the offset of the table
abbrev pub header_page : Numbers → NewKind → LaidUnit → List ℕ
header_page n kind o = le_bytes 4 (o.end - o.at - 4)
    ++ (le_bytes 2 5 ++ (kind_byte kind ∷ 8 ∷ [] ++ (le_bytes 4 o.table ++ kind_page n kind)))

-- ---- units

-- what was laid; the bytes so far; how many units and how many entries were written; and where the unit at hand begins
pub record Writing : Type 0 where
  pub made : Made
  pub out : List ℕ
  pub units : ℕ
  pub copies : ℕ
  pub begin : ℕ

abbrev pub nothing_written : Made → Writing
nothing_written made = record { made = made; out = []; units = 0; copies = 0; begin = 0 }

abbrev pub numbers_of : Made → ℕ → Numbers
numbers_of made unit = numbers_in made.places [] unit

-- a unit that isn't there has no bytes
abbrev pub unit_at : Made → ℕ → LaidUnit
unit_at made i = slice_index_or made.units i (record { at = 0; end = 0; table = 0 })

-- the header of the next unit
abbrev pub with_header : Writing → NewKind → Writing
with_header w kind =
    let o = unit_at w.made w.units in
    record {
      made = w.made;
      out = w.out ++ header_page (numbers_of w.made o.at) kind o;
      units = w.units + 1;
      copies = w.copies;
      begin =
          o.at;
    }

-- the next entry, under the code with which it was laid
abbrev pub with_entry : Writing → NewLine → Writing
with_entry w e = record {
  made = w.made;
  out = w.out ++ entry_page (slice_index w.made.codes w.copies) (line_call (numbers_of w.made w.begin) e);
  units = w.units;
  copies = w.copies + 1;
  begin =
      w.begin;
}

abbrev pub with_written : Writing → UnitLines → Writing
with_written w u = fold with_entry (with_header w u.kind) u.lines

-- these units are written
abbrev pub writing_of : Made → List UnitLines → Writing
writing_of made units = fold with_written (nothing_written made) units

-- these units are written, and of one of that kind these entries
abbrev pub writing_in : Made → List UnitLines → NewKind → List NewLine → Writing
writing_in made units kind lines = fold with_entry (with_header (writing_of made units) kind) lines

-- all new units
abbrev pub written : Made → List UnitLines → List ℕ
written made units = (writing_of made units).out
