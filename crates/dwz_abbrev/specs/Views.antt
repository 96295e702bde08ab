-- Declarations in memory.
use Rattle.std.specs.Prelude.{List, map}
use Rattle.std.specs.Borrow.{Bor}
use Rattle.dwz_def_reading.specs.Abbrevs.{Declaration}
use Rattle.dwz_abbrev.specs.declared.decl.Decl.{Decl}

-- what a declaration says
abbrev pub decl_view : Decl → Declaration
decl_view d = record { code = d.code; tag = d.tag; children = d.children; pairs = d.pairs }

abbrev pub views : List Decl → List Declaration
views rows = map decl_view rows

abbrev pub lent_views : List (Bor Decl) → List Declaration
lent_views rows = map (λ d. decl_view d.now) rows
