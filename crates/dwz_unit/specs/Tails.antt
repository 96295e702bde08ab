-- Tables that are the ends of others, or go on with them.
use Rattle.std.specs.Prelude.{◌≡◌, ◌<◌, ◌≤◌, ℕ, All, List, [], ◌∷◌, ◌++◌, Option, Some, None, Ok, Err, Result, drop, length, map, slice_get, slice_index_or}
use Rattle.std.specs.Ordering.{nat_cmp}
use Rattle.std.specs.BTreeMap.{BTreeMap, get}
use Rattle.dwz_abbrev.specs.ReadViews.{read_views}
use Rattle.dwz_def_reading.specs.Abbrevs.{Declaration, find_decl, table_at}
use Rattle.dwz_def_reading.specs.Faults.{Fails}
use Rattle.dwz_model.specs.declared.fault.ReadErr.{ReadErr}
use Rattle.dwz_unit.specs.declared.joined_table.JoinedTable.{JoinedTable}
use Rattle.dwz_unit.specs.declared.tail.Tail.{Tail}
use Rattle.dwz_model.specs.declared.place.Pair.{Pair}
use Rattle.dwz_unit.specs.Found.{StandsIn, all_pairs}
use Rattle.dwz_unit.specs.TableViews.{TableView, table_view, table_views}
use Rattle.dwz_unit.specs.Numbers.{AreNumbers}
use Rattle.dwz_unit.specs.Tables.{Grows, Stored}

-- the declarations of the end of one of these tables
abbrev pub tail_in : List (List Declaration) → Tail → List Declaration
tail_in tables t = drop t.skip (slice_index_or tables t.base [])

-- what is found in the first declarations is found in all
abbrev pub FindsFirst : List Declaration → List Declaration → Type 0
FindsFirst first all = (code : ℕ) (d : Declaration) → find_decl first code ≡ Some d → find_decl all code ≡ Some d

-- the table at an offset of the section is this end of one of the tables
pub record HasTail (s : Stored) (offset : ℕ) (t : Tail) : Type 0 where
  pub within : t.base < length s.tables
  pub read : table_at s.section offset ≡ Ok (tail_in s.tables t)

-- ---- tables that go on with the ends of others

-- the declarations of such an end, or none
abbrev pub end_in : List (List Declaration) → Option Tail → List Declaration
end_in tables None = []
end_in tables (Some t) = tail_in tables t

-- a table's own declarations, and the end of one of these that follows them
abbrev pub whole_in : List (List Declaration) → TableView → List Declaration
whole_in tables r = r.table ++ end_in tables r.next

-- tables, behind others that they go on with
abbrev pub tables_behind : List (List Declaration) → List TableView → List (List Declaration)
tables_behind tables [] = tables
tables_behind tables (r ∷ reads) = tables_behind (tables ++ whole_in tables r ∷ []) reads

-- the tables that were read, whole
abbrev pub whole_tables : List TableView → List (List Declaration)
whole_tables reads = tables_behind [] reads

-- the same, of a section
abbrev pub read_from : List ℕ → List TableView → Stored
read_from section reads = record { section = section; tables = whole_tables reads; decls = all_pairs reads }

-- the end of a table begins no later than behind its own declarations
pub record StartsIn (reads : List TableView) (t : Tail) : Type 0 where
  pub read : TableView
  pub base : slice_get reads t.base ≡ Some read
  pub skip : t.skip ≤ length read.table

-- the table with that number is this one, and goes on with the end of one before it
pub record IsLinked (reads : List TableView) (tables : List (List Declaration)) (number : ℕ) (r : TableView) : Type 0 where
  pub whole : slice_get tables number ≡ Some (whole_in tables r)
  pub before : (t : Tail) → r.next ≡ Some t → t.base < number
  pub next : (t : Tail) → r.next ≡ Some t → StartsIn reads t
  pub stands : StandsIn (all_pairs reads) r

abbrev pub AreLinked : List TableView → List (List Declaration) → Type 0
AreLinked reads tables = (number : ℕ) (r : TableView) → slice_get reads number ≡ Some r → IsLinked reads tables number r

-- it is known where its own declarations begin: the table there is the declaration and those behind it
abbrev pub KnowsStarts : List ℕ → List (List Declaration) → TableView → Type 0
KnowsStarts section tables r = (n place : ℕ) → slice_get r.starts n ≡ Some place → (n < length r.table) × (table_at section place ≡ Ok (drop n (whole_in tables r)))

-- tables of a section that were read
pub record AreReadTables (section : List ℕ) (reads : List TableView) (tables : List (List Declaration)) : Type 0 where
  pub linked : AreLinked reads tables
  pub starts : (number : ℕ) (r : TableView) → slice_get reads number ≡ Some r → KnowsStarts section tables r

-- the table at an offset of the section is this one, which goes on with the end of one of these
pub record IsJoined (section : List ℕ) (reads : List TableView) (tables : List (List Declaration)) (offset : ℕ) (r : TableView) : Type 0 where
  pub next : (t : Tail) → r.next ≡ Some t → StartsIn reads t
  pub read : table_at section offset ≡ Ok (whole_in tables r)
  pub starts : KnowsStarts section tables r

-- the same, or the table has that fault
abbrev pub FindsJoined : List ℕ → List Pair → List JoinedTable → ℕ → Result JoinedTable ReadErr → Type 0
FindsJoined section row reads offset (Ok r) = IsJoined section (table_views row reads) (whole_tables (table_views row reads)) offset (table_view row r)
FindsJoined section row reads offset (Err e) = Fails e (table_at section offset)

-- the table at an offset of the section is this one, of which it isn't known where declarations begin
pub record IsWhole (section : List ℕ) (row : List Pair) (offset : ℕ) (r : JoinedTable) : Type 0 where
  pub read : table_at section offset ≡ Ok (read_views row r.rows)
  pub starts : r.starts.items ≡ []
  pub next : r.next ≡ None

-- the first declaration of this end of a table begins at the offset
pub record BeginsAt (reads : List TableView) (offset : ℕ) (t : Tail) : Type 0 where
  pub read : TableView
  pub base : slice_get reads t.base ≡ Some read
  pub start : slice_get read.starts t.skip ≡ Some offset

-- each offset leads to the end of a table that is there
abbrev pub AreTails : Stored → BTreeMap ℕ Tail → Type 0
AreTails s tails = (offset : ℕ) (t : Tail) → get nat_cmp tails offset ≡ Some t → HasTail s offset t

-- tables of a section that were read, the ends of them that were asked for, and how many declarations there are
pub record AreJoinedTables (section : List ℕ) (reads : List TableView) (tails : BTreeMap ℕ Tail) (count : ℕ) : Type 0 where
  pub known : AreReadTables section reads (whole_tables reads)
  pub asked : AreTails (read_from section reads) tails
  pub counted : count ≡ length (all_pairs reads)

-- ---- tables by their offsets

abbrev pub AnswersTail : Stored → Stored → ℕ → Result Tail ReadErr → Type 0
AnswersTail old new offset (Ok t) = HasTail new offset t
AnswersTail old new offset (Err e) = Fails e (table_at old.section offset)

-- the table at an offset was found as the end of one, and the tables of before keep their numbers
pub record FindsTail (old new : Stored) (offset : ℕ) (result : Result Tail ReadErr) : Type 0 where
  pub grows : Grows old new
  pub answers : AnswersTail old new offset result

-- the tables that are these ends of others
abbrev pub stored : Stored → List Tail → Stored
stored joined tails = record { section = joined.section; tables = map (tail_in joined.tables) tails; decls = joined.decls }

-- each is the end of a table that is there, and each offset leads to the number of its table
pub record AreTables (joined : Stored) (tails : List Tail) (numbers : BTreeMap ℕ ℕ) : Type 0 where
  pub within : All (λ t. t.base < length joined.tables) tails
  pub numbered : AreNumbers (stored joined tails) numbers
