-- The shapes of a unit's entries as declarations (DWARF 5, 7.5.3).
use Rattle.std.specs.Prelude.{◌≡◌, ℕ, Bool, List, map}
use Rattle.dwz_model.specs.declared.place.Pair.{Pair}
use Rattle.dwz_def_reading.specs.Abbrevs.{Declaration, table_bytes}
use Rattle.dwz_def_encoding.specs.Writing.{DeclarationShape, coded}

abbrev pub shape_of : ℕ → Bool → List Pair → DeclarationShape
shape_of tag children pairs = record { tag = tag; children = children; pairs = pairs }

abbrev pub shape_in : Declaration → DeclarationShape
shape_in d = record { tag = d.tag; children = d.children; pairs = d.pairs }

-- the shapes of declarations
abbrev pub shapes_in : List Declaration → List DeclarationShape
shapes_in table = map shape_in table

-- their codes count up from 1
abbrev pub IsCoded : List Declaration → Type 0
IsCoded table = table ≡ coded 1 (shapes_in table)

-- the bytes of a table of shapes
abbrev pub table_for : List DeclarationShape → List ℕ
table_for shapes = table_bytes (coded 1 shapes)
