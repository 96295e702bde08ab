-- Tables that were read, as the definitions see them: their names and forms lie in one row.
use Rattle.std.specs.Prelude.{ℕ, All, List, map, Option}
use Rattle.dwz_abbrev.specs.ReadViews.{IsInRow, read_views}
use Rattle.dwz_def_reading.specs.Abbrevs.{Declaration}
use Rattle.dwz_model.specs.declared.place.Pair.{Pair}
use Rattle.dwz_unit.specs.declared.joined_table.JoinedTable.{JoinedTable}
use Rattle.dwz_unit.specs.declared.tail.Tail.{Tail}

-- a table's own declarations, where each begins, the end of another that follows them, and the number of the first of them
pub record TableView : Type 0 where
  pub table : List Declaration
  pub starts : List ℕ
  pub next : Option Tail
  pub first : ℕ

abbrev pub table_view : List Pair → JoinedTable → TableView
table_view row r = record { table = read_views row r.rows; starts = r.starts.items; next = r.next; first = r.first }

abbrev pub table_views : List Pair → List JoinedTable → List TableView
table_views row reads = map (table_view row) reads

-- the names and forms of its declarations are in the row
abbrev pub HasRow : List Pair → JoinedTable → Type 0
HasRow row r = All (IsInRow row) r.rows

abbrev pub HaveRow : List Pair → List JoinedTable → Type 0
HaveRow row reads = All (HasRow row) reads
