-- A table that was read, with the end of another with which it goes on.
use Rattle.std.proofs.Common.{◌≡◌, ℕ, List, [], ◌++◌, drop, Option, Some, None, Result, Ok, Err, false, sym, ap, subst, ◌∙◌, arith}
use Rattle.std.proofs.lemmas.List.{append-nil}
use Rattle.std.proofs.lemmas.Option.{slice_get_within}
use Rattle.std.specs.Prelude.{All, IfErr, IfOk, is_some, slice_get}
use Rattle.dwz_model.specs.declared.fault.ReadErr.{ReadErr}
use Rattle.dwz_model.specs.declared.fault.ReadErr.TheVariants.{NoMemory}
use Rattle.dwz_def_reading.specs.Faults.{Fails}
use Rattle.dwz_abbrev.specs.Starts.{HaveOtherCodes, AreStarts, IsReadUpTo}
use Rattle.dwz_abbrev.specs.declared.read_decl.ReadDecl.{ReadDecl}
use Rattle.dwz_abbrev.specs.ReadViews.{IsInRow, read_views}
use Rattle.dwz_abbrev.proofs.FollowLemmas.{each_followed, followed}
use Rattle.dwz_model.specs.declared.place.Pair.{Pair}
use Rattle.dwz_def_reading.specs.Abbrevs.{Declaration, table_at}
use Rattle.dwz_unit.specs.declared.joined_table.JoinedTable.{JoinedTable}
use Rattle.dwz_unit.specs.TableViews.{HasRow, TableView, table_view, table_views}
use Rattle.dwz_unit.specs.declared.tail.Tail.{Tail}
use Rattle.dwz_unit.specs.Tails.{AreReadTables, BeginsAt, FindsJoined, IsJoined, IsWhole, StartsIn, end_in, whole_tables, tail_in, whole_in}
use Rattle.dwz_unit.proofs.LinkLemmas.{begins_has, begins_in}

-- a table that was read to its end
pub joins_none : (section : List ℕ) (reads : List TableView) (offset : ℕ) (r : TableView) → r.next ≡ None → table_at section offset ≡ Ok r.table → AreStarts section r.table r.starts
    → IsJoined section reads (whole_tables reads) offset r
joins_none section reads offset r none read starts =
    let whole : whole_in (whole_tables reads) r ≡ r.table = ap (λ (next : Option Tail). r.table ++ end_in (whole_tables reads) next) none ∙ append-nil r.table in
    record {
      next = λ t is. let never : None ≡ Some t = sym none ∙ is in absurd cc;
      read = read ∙ ap (λ (w : List Declaration). Ok w) (sym whole);
      starts = λ n place is. (
        omega (arith, slice_get_within r.starts n place is, starts.as_many),
        starts.each n place is ∙ ap (λ (w : List Declaration). Ok (drop n w)) (sym whole),
      );
    }

-- what was made of a table's parts, or NoMemory
module _ (section : List ℕ) (row : List Pair) (reads : List JoinedTable) (offset first : ℕ) (rows : List ReadDecl) (starts : List ℕ) (next : Option Tail) where
  abbrev pub IsMadeOf : JoinedTable → Type 0
  IsMadeOf r = (r.rows ≡ rows) × (r.starts.items ≡ starts) × (r.next ≡ next) × (r.first ≡ first)

  pub made_finds : (result : Result JoinedTable ReadErr) → IfOk result IsMadeOf → IfErr result (λ e. e ≡ NoMemory)
      → ((r : JoinedTable) → r.rows ≡ rows → r.starts.items ≡ starts → r.next ≡ next → IsJoined section (table_views row reads) (whole_tables (table_views row reads)) offset (table_view row r))
      → FindsJoined section row reads offset result
  made_finds (Ok r) ok err joins = joins r ok.0 ok.1 ok.2
  made_finds (Err e) ok err joins = subst (λ (w : ReadErr). Fails w (table_at section offset)) (sym err) tt

  pub made_first : (result : Result JoinedTable ReadErr) → IfOk result IsMadeOf → IfOk result (λ r. r.first ≡ first)
  made_first (Ok r) ok = ok.3
  made_first (Err e) ok = tt

  pub made_within : (result : Result JoinedTable ReadErr) → IfOk result IsMadeOf → All (IsInRow row) rows → IfOk result (HasRow row)
  made_within (Ok r) ok within = subst (All (IsInRow row)) (sym ok.0) within
  made_within (Err e) ok within = tt

-- or of which no place is kept
pub joins_whole : (section : List ℕ) (reads : List TableView) (offset : ℕ) (r : TableView) → r.next ≡ None → table_at section offset ≡ Ok r.table → r.starts ≡ []
    → IsJoined section reads (whole_tables reads) offset r
joins_whole section reads offset r none read empty =
    let whole : whole_in (whole_tables reads) r ≡ r.table = ap (λ (next : Option Tail). r.table ++ end_in (whole_tables reads) next) none ∙ append-nil r.table in
    record {
      next = λ t is. let never : None ≡ Some t = sym none ∙ is in absurd cc;
      read = read ∙ ap (λ (w : List Declaration). Ok w) (sym whole);
      starts = λ n place is. let never : slice_get [] n ≡ Some place = ap (λ (w : List ℕ). slice_get w n) (sym empty) ∙ is in absurd cc;
    }

-- one that goes on with the end of another, which has none of its codes
pub joins_some : (section : List ℕ) (reads : List TableView) (offset place : ℕ) (r : TableView) (t : Tail) → AreReadTables section reads (whole_tables reads) → BeginsAt reads place t → r.next ≡ Some t
    → IsReadUpTo section offset r.table r.starts (Some place) → HaveOtherCodes r.table (tail_in (whole_tables reads) t) → IsJoined section reads (whole_tables reads) offset r
joins_some section reads offset place r t known begins next read apart =
    let has = (begins_has section reads place known t begins).read in
    let whole : whole_in (whole_tables reads) r ≡ r.table ++ tail_in (whole_tables reads) t = ap (λ (o : Option Tail). r.table ++ end_in (whole_tables reads) o) next in
    record {
      next = λ u is.
          let same : t ≡ u = let both = sym next ∙ is in cc in
          subst (StartsIn reads) same (begins_in section reads place known t begins);
      read = followed section offset place r.table (tail_in (whole_tables reads) t) read.0 has apart ∙ ap (λ (w : List Declaration). Ok w) (sym whole);
      starts = λ n at is. (
        omega (arith, slice_get_within r.starts n at is, read.1.as_many),
        each_followed section place r.table (tail_in (whole_tables reads) t) r.starts read.1 has apart n at is ∙ ap (λ (w : List Declaration). Ok (drop n w)) (sym whole),
      );
    }

-- ---- as the code has it

pub made_none : (section : List ℕ) (row : List Pair) (reads : List JoinedTable) (offset first : ℕ) (rows : List ReadDecl) (starts : List ℕ) (result : Result JoinedTable ReadErr)
    → IfOk result (IsMadeOf section row reads offset first rows starts None) → IfErr result (λ e. e ≡ NoMemory) → table_at section offset ≡ Ok (read_views row rows)
    → AreStarts section (read_views row rows) starts → FindsJoined section row reads offset result
made_none section row reads offset first rows starts result ok err read are =
    made_finds section row reads offset first rows starts None result ok err (λ r own places next.
    joins_none section (table_views row reads) offset (table_view row r) next (read ∙ ap (λ (w : List ReadDecl). Ok (read_views row w)) (sym own))
    (subst (λ (w : List ReadDecl). AreStarts section (read_views row w) r.starts.items) (sym own) (subst (AreStarts section (read_views row rows)) (sym places) are)))

pub made_whole : (section : List ℕ) (row : List Pair) (offset first : ℕ) (rows : List ReadDecl) (starts : List ℕ) (result : Result JoinedTable ReadErr)
    → IfOk result (IsMadeOf section row [] offset first rows starts None) → table_at section offset ≡ Ok (read_views row rows) → starts ≡ []
    → IfOk result (IsWhole section row offset)
made_whole section row offset first rows starts (Ok r) ok read none = record { read = read ∙ ap (λ (w : List ReadDecl). Ok (read_views row w)) (sym ok.0); starts = ok.1 ∙ none; next = ok.2 }
made_whole section row offset first rows starts (Err e) ok read none = tt

pub whole_finds : (section : List ℕ) (row : List Pair) (reads : List JoinedTable) (offset : ℕ) (result : Result JoinedTable ReadErr) → IfOk result (IsWhole section row offset)
    → IfErr result (λ e. Fails e (table_at section offset)) → FindsJoined section row reads offset result
whole_finds section row reads offset (Ok r) ok err = joins_whole section (table_views row reads) offset (table_view row r) ok.next ok.read ok.starts
whole_finds section row reads offset (Err e) ok err = err

pub made_fails : (section : List ℕ) (row : List Pair) (offset first : ℕ) (rows : List ReadDecl) (starts : List ℕ) (result : Result JoinedTable ReadErr) → IfErr result (λ e. e ≡ NoMemory)
    → IfErr result (λ e. Fails e (table_at section offset))
made_fails section row offset first rows starts (Ok r) err = tt
made_fails section row offset first rows starts (Err e) err = subst (λ (w : ReadErr). Fails w (table_at section offset)) (sym err) tt

pub made_some : (section : List ℕ) (row : List Pair) (reads : List JoinedTable) (offset first place : ℕ) (rows : List ReadDecl) (starts : List ℕ) (t : Tail) (result : Result JoinedTable ReadErr)
    → IfOk result (IsMadeOf section row reads offset first rows starts (Some t)) → IfErr result (λ e. e ≡ NoMemory) → AreReadTables section (table_views row reads) (whole_tables (table_views row reads))
    → BeginsAt (table_views row reads) place t → IsReadUpTo section offset (read_views row rows) starts (Some place)
    → HaveOtherCodes (read_views row rows) (tail_in (whole_tables (table_views row reads)) t) → FindsJoined section row reads offset result
made_some section row reads offset first place rows starts t result ok err known begins read apart =
    made_finds section row reads offset first rows starts (Some t) result ok err (λ r own places next.
    joins_some section (table_views row reads) offset place (table_view row r) t known begins next
    (subst (λ (w : List ReadDecl). IsReadUpTo section offset (read_views row w) r.starts.items (Some place)) (sym own)
    (subst (λ (w : List ℕ). IsReadUpTo section offset (read_views row rows) w (Some place)) (sym places) read))
    (subst (λ (w : List ReadDecl). HaveOtherCodes (read_views row w) (tail_in (whole_tables (table_views row reads)) t)) (sym own) apart))

-- what was read up to no stop is all
pub read_to_end : (section : List ℕ) (at : ℕ) (table : List Declaration) (starts : List ℕ) (stop : Option ℕ) → is_some stop ≡ false → IsReadUpTo section at table starts stop → table_at section at ≡ Ok table
read_to_end section at table starts None none is = is.0
read_to_end section at table starts (Some place) none is = absurd cc
