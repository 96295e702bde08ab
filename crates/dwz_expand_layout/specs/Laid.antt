-- Where new units and their entries are laid, one behind the other (DWARF 5, 7.5).
use Rattle.std.specs.Prelude.{ℕ, ◌+◌, List, [], ◌∷◌, ◌++◌, fold, length}
use Rattle.dwz_def_encoding.specs.Writing.{DeclarationShape, code_in, or_zero, table_in, with_shape, with_table}
use Rattle.dwz_layout.specs.Attributes.{no_numbers}
use Rattle.dwz_layout.specs.Laid.{shape_of_call}
use Rattle.dwz_layout.specs.Shapes.{table_for}
use Rattle.dwz_layout.specs.Stored.{entry_bytes}
use Rattle.dwz_expand_layout.specs.declared.entries.NewKind.{NewKind}
use Rattle.dwz_expand_layout.specs.declared.entries.NewKind.TheVariants.{Compile, OfType}
use Rattle.dwz_expand_layout.specs.declared.layout.LaidUnit.{LaidUnit}
use Rattle.dwz_expand_layout.specs.declared.layout.NewLayout.{NewLayout}
use Rattle.dwz_expand_layout.specs.Entries.{NewLine, UnitLines, line_call}

-- the units so far: where each begins and ends, and the offset of its table; the tables, each once; where each copy stands, and its
-- code; and the place behind all
pub record Made : Type 0 where
  pub units : List LaidUnit
  pub tables : List (List ℕ)
  pub places : List ℕ
  pub codes : List ℕ
  pub end : ℕ

abbrev pub layout_view : NewLayout → Made
layout_view l = record { units = l.units.items; tables = l.tables; places = l.places.items; codes = l.codes.items; end = l.end }

-- the same, and of the unit at hand where it begins, and the shapes of its entries so far, each once
pub record Laying : Type 0 where
  pub made : Made
  pub begin : ℕ
  pub shapes : List DeclarationShape

abbrev pub nothing_laid : Laying
nothing_laid = record { made = record { units = []; tables = []; places = []; codes = []; end = 0 }; begin = 0; shapes = [] }

-- a header has 12 bytes, that of a type unit 24 (7.5.1)
abbrev pub header_size : NewKind → ℕ
header_size Compile = 12
header_size (OfType signature main) = 24

-- a unit begins
abbrev pub begun : Laying → NewKind → Laying
begun l kind = record { made = record l.made { end = l.made.end + header_size kind }; begin = l.made.end; shapes = [] }

-- an entry is laid, and the ends behind it, each of a byte
abbrev pub with_line : Laying → NewLine → Laying
with_line l e =
    let c = line_call no_numbers e in
    let s = shape_of_call c in
    let shapes = with_shape l.shapes s in
    record {
      made = record {
        units = l.made.units;
        tables = l.made.tables;
        places = l.made.places ++ l.made.end ∷ [];
        codes = l.made.codes ++ or_zero (code_in 1 shapes s) ∷ [];
        end =
            l.made.end + length (entry_bytes shapes s c.attrs) + c.ends;
      };
      begin = l.begin;
      shapes = shapes;
    }

-- a unit ends, and its table is kept
abbrev pub ended : Laying → Laying
ended l =
    let table = table_for l.shapes in
    let tables = with_table l.made.tables table in
    let unit : LaidUnit = record { at = l.begin; end = l.made.end; table = or_zero (table_in 0 tables table) } in
    record {
      made = record { units = l.made.units ++ unit ∷ []; tables = tables; places = l.made.places; codes = l.made.codes; end = l.made.end };
      begin = l.begin;
      shapes = l.shapes;
    }

-- a unit is next
abbrev pub with_unit : Laying → UnitLines → Laying
with_unit l u = ended (fold with_line (begun l u.kind) u.lines)

-- these units are laid, and none is at hand
abbrev pub laying_of : List UnitLines → Laying
laying_of units = fold with_unit nothing_laid units

-- these units are laid, and of one of that kind these entries
abbrev pub laying_in : List UnitLines → NewKind → List NewLine → Laying
laying_in units kind lines = fold with_line (begun (laying_of units) kind) lines

-- all new units
abbrev pub laid : List UnitLines → Made
laid units = (laying_of units).made
