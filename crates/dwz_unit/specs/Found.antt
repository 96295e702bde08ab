-- Declarations that are found by their codes, and their numbers among those of all tables.
use Rattle.std.specs.Prelude.{◌≡◌, ℕ, ◌+◌, List, [], ◌∷◌, ◌++◌, map, Option, Some, None, slice_get}
use Rattle.dwz_def_reading.specs.Abbrevs.{Declaration}
use Rattle.dwz_model.specs.declared.place.Pair.{Pair}
use Rattle.dwz_unit.specs.declared.numbered.Numbered.{Numbered}
use Rattle.dwz_unit.specs.TableViews.{TableView}

-- the names and forms of each declaration
abbrev pub each_pairs : List Declaration → List (List Pair)
each_pairs table = map (λ (d : Declaration). d.pairs) table

-- those of the own declarations of all tables, in order: the number of a declaration is its index
abbrev pub all_pairs : List TableView → List (List Pair)
all_pairs [] = []
all_pairs (r ∷ reads) = each_pairs r.table ++ all_pairs reads

-- the table's own declarations have the numbers from that of the first on
abbrev pub StandsIn : List (List Pair) → TableView → Type 0
StandsIn decls r = (place : ℕ) (d : Declaration) → slice_get r.table place ≡ Some d → slice_get decls (r.first + place) ≡ Some d.pairs

-- what a declaration that was found says
abbrev pub found_view : Numbered → Declaration
found_view f = record { code = f.decl.now.code; tag = f.decl.now.tag; children = f.decl.now.children; pairs = f.pairs.now }

-- the declaration is one of the table's own, with its number
pub record IsOwn (r : TableView) (f : Numbered) : Type 0 where
  pub place : ℕ
  pub there : slice_get r.table place ≡ Some (found_view f)
  pub number : f.number ≡ r.first + place

-- what was sought is that one of the table's own, or nothing
abbrev pub FindsOwn : TableView → Option Declaration → Option Numbered → Type 0
FindsOwn r sought None = sought ≡ None
FindsOwn r sought (Some f) = (sought ≡ Some (found_view f)) × IsOwn r f

-- what was sought is that one, whose number leads to its names and forms, or nothing
abbrev pub Finds : List (List Pair) → Option Declaration → Option Numbered → Type 0
Finds decls sought None = sought ≡ None
Finds decls sought (Some f) = (sought ≡ Some (found_view f)) × (slice_get decls f.number ≡ Some f.pairs.now)
