-- Declarations that were read, whose names and forms are parts of a row.
use Rattle.std.specs.Prelude.{ℕ, ◌+◌, ◌≤◌, List, length, map, slice_range}
use Rattle.dwz_def_reading.specs.Abbrevs.{Declaration}
use Rattle.dwz_model.specs.declared.place.Pair.{Pair}
use Rattle.dwz_abbrev.specs.declared.read_decl.ReadDecl.{ReadDecl}

-- its names and forms
abbrev pub pairs_in : List Pair → ReadDecl → List Pair
pairs_in row d = slice_range row d.first (d.first + d.count)

-- what a declaration says
abbrev pub read_view : List Pair → ReadDecl → Declaration
read_view row d = record { code = d.code; tag = d.tag; children = d.children; pairs = pairs_in row d }

abbrev pub read_views : List Pair → List ReadDecl → List Declaration
read_views row decls = map (read_view row) decls

abbrev pub read_codes : List ReadDecl → List ℕ
read_codes decls = map (λ (d : ReadDecl). d.code) decls

-- its names and forms are in the row
abbrev pub IsInRow : List Pair → ReadDecl → Type 0
IsInRow row d = d.first + d.count ≤ length row
