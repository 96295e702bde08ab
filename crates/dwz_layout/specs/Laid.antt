-- Where entries are laid, one behind the other (DWARF 5, 7.5).
use Rattle.std.specs.Prelude.{ℕ, ◌+◌, ◌-◌, suc, List, [], ◌∷◌, ◌++◌, length, map, replicate, slice_set}
use Rattle.dwz_def_reading.specs.Units.{RawUnit}
use Rattle.dwz_unit.specs.Rows.{EntryRow, Source, rows_of, units_of}
use Rattle.dwz_layout.specs.Shapes.{table_for}
use Rattle.dwz_def_encoding.specs.Writing.{DeclarationShape, code_in, or_zero, table_in, with_shape, with_table}
use Rattle.dwz_layout.specs.declared.known.EntryTable.{EntryTable}
use Rattle.dwz_layout.specs.declared.layout.FileLayout.{FileLayout}
use Rattle.dwz_layout.specs.declared.layout.OutUnit.{OutUnit}
use Rattle.dwz_layout.specs.declared.layout.Spots.{Spots}
use Rattle.dwz_layout.specs.declared.laying.Laying.{Laying as LayingOfCode}
use Rattle.dwz_layout.specs.declared.order.Sort.{Sort}
use Rattle.dwz_layout.specs.declared.order.Sort.TheVariants.{Compile, OfType, Partial}
use Rattle.dwz_layout.specs.declared.order.UnitItems.{UnitItems}
use Rattle.dwz_layout.specs.declared.walk.Entry.{Entry}
use Rattle.dwz_layout.specs.declared.walk.Origin.{Origin}
use Rattle.dwz_layout.specs.declared.walk.Origin.TheVariants.{Read}
use Rattle.dwz_layout.specs.Attributes.{Call, WritingContext, call_of, here_of, no_numbers}
use Rattle.dwz_layout.specs.Entries.{unit_entries}
use Rattle.dwz_layout.specs.Known.{number_of}
use Rattle.dwz_layout.specs.Stored.{entry_bytes, shape_for}

-- ---- the entries of a unit

-- the shapes so far, each once; the place behind what is laid; the code of each entry; and where entries of all files stand
pub record Laying : Type 0 where
  pub shapes : List DeclarationShape
  pub at : ℕ
  pub codes : List ℕ
  pub places : List ℕ

abbrev pub laying_of : LayingOfCode → List ℕ → Laying
laying_of l places = record { shapes = l.shapes; at = l.at; codes = l.codes.items; places = places }

abbrev pub laying_from : ℕ → List ℕ → Laying
laying_from at places = record { shapes = []; at = at; codes = []; places = places }

abbrev pub shape_of_call : Call → DeclarationShape
shape_of_call c = shape_for c.tag c.children c.attrs

-- an entry that was read gets its place
abbrev pub note : EntryTable → Origin → ℕ → List ℕ → List ℕ
note k (Read r) at places = slice_set places (number_of k r) at
note k _ at places = places

-- an entry is laid, and the ends behind it, each of a byte
abbrev pub with_call : EntryTable → Origin → Call → Laying → Laying
with_call k origin c l =
    let s = shape_of_call c in
    let shapes = with_shape l.shapes s in
    record {
      shapes = shapes;
      at = l.at + length (entry_bytes shapes s c.attrs) + c.ends;
      codes = l.codes ++ or_zero (code_in 1 shapes s) ∷ [];
      places = note k origin l.at l.places;
    }

unfoldable pub with_entries : EntryTable → WritingContext → List Entry → Laying → Laying
with_entries k here [] l = l
with_entries k here (e ∷ entries) l = with_entries k here entries (with_call k e.origin (call_of k here no_numbers e) l)

-- ---- units

-- a header has 12 bytes, that of a type unit 24 (7.5.1)
abbrev pub header_size : Sort → ℕ
header_size (Compile root) = 12
header_size (OfType root signature main) = 24
header_size (Partial line) = 12

abbrev pub laid_unit : EntryTable → ℕ → ℕ → List ℕ → UnitItems → Laying
laid_unit k here at places u = with_entries k (here_of k here u.sort) (unit_entries k u) (laying_from (at + header_size u.sort) places)

-- the units of a file so far: where each begins and ends, the offset of its table, and the codes of its entries; the tables, each once;
-- the place behind the units; and for all files where each entry that was read stands, and the root of each unit
pub record Made : Type 0 where
  pub units : List OutUnit
  pub tables : List (List ℕ)
  pub at : ℕ
  pub places : List ℕ
  pub roots : List ℕ

abbrev pub made : FileLayout → Spots → Made
made f s = record { units = f.units.items; tables = f.tables; at = f.end; places = s.places.items; roots = s.roots.items }

-- the unit with that number is next
abbrev pub with_unit : EntryTable → ℕ → UnitItems → Made → Made
with_unit k here u m =
    let l = laid_unit k here m.at m.places u in
    let table = table_for l.shapes in
    let tables = with_table m.tables table in
    record {
      units = m.units ++ record { at = m.at; end = l.at; «abbrev» = or_zero (table_in 0 tables table); codes = l.codes } ∷ [];
      tables = tables;
      at = l.at;
      places = l.places;
      roots = m.roots ++ (m.at + header_size u.sort) ∷ [];
    }

-- the units, the first of which has that number
unfoldable pub with_units : EntryTable → ℕ → List UnitItems → Made → Made
with_units k here [] m = m
with_units k here (u ∷ units) m = with_units k (suc here) units (with_unit k here u m)

-- ---- files

-- the units of a file, its tables, and how many bytes its units have
pub record FileMade : Type 0 where
  pub units : List OutUnit
  pub tables : List (List ℕ)
  pub end : ℕ

abbrev pub file_view : FileLayout → FileMade
file_view f = record { units = f.units.items; tables = f.tables; end = f.end }

-- the files so far, and where entries and the roots of units stand, each in its own file
pub record AllMade : Type 0 where
  pub files : List FileMade
  pub places : List ℕ
  pub roots : List ℕ

-- no unit of a file is laid
abbrev pub no_unit : List ℕ → List ℕ → Made
no_unit places roots = record { units = []; tables = []; at = 0; places = places; roots = roots }

abbrev pub file_made : EntryTable → ℕ → List UnitItems → AllMade → Made
file_made k here f all = with_units k here f (no_unit all.places all.roots)

abbrev pub with_file : EntryTable → ℕ → List UnitItems → AllMade → AllMade
with_file k here f all =
    let m = file_made k here f all in
    record { files = all.files ++ record { units = m.units; tables = m.tables; end = m.at } ∷ []; places = m.places; roots = m.roots }

-- the files, the first unit of which has that number
unfoldable pub with_files : EntryTable → ℕ → List (List UnitItems) → AllMade → AllMade
with_files k here [] all = all
with_files k here (f ∷ files) all = with_files k (here + length f) files (with_file k here f all)

-- no file is laid yet, and entries and roots have these places
abbrev pub no_file : List ℕ → List ℕ → AllMade
no_file places roots = record { files = []; places = places; roots = roots }

-- all files that are written, behind units that stand already
abbrev pub made_from : EntryTable → List (List UnitItems) → AllMade → AllMade
made_from k files start = with_files k (length start.roots) files start

-- so many entries were read, and none has a place yet
abbrev pub none_made : ℕ → AllMade
none_made count = no_file (replicate count 0) []

-- all files that are written, the common one first
abbrev pub made_of : EntryTable → List (List UnitItems) → AllMade
made_of k files = made_from k files (none_made (length k.owners.items))

-- ---- over a common file that stands already

-- where its entries stand, and the roots of its units
pub record Standing : Type 0 where
  pub places : List ℕ
  pub roots : List ℕ

abbrev pub standing_view : Source → Standing
standing_view s = record { places = map (λ (r : EntryRow). r.entry.at) (rows_of (units_of s)); roots = map (λ (u : RawUnit). u.root.at) (units_of s) }

-- of so many entries these are the last, and of all units these the first
abbrev pub over_made : ℕ → Standing → AllMade
over_made count s = no_file (replicate (count - length s.places) 0 ++ s.places) s.roots

-- all files that are written but that one
abbrev pub over_of : EntryTable → Standing → List (List UnitItems) → AllMade
over_of k s files = made_from k files (over_made (length k.owners.items) s)
