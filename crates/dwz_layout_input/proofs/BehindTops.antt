-- The tops of a common file by its index: they are entries of it, and few.
use Rattle.std.proofs.Common.{◌≡◌, ℕ, suc, ◌+◌, ◌<◌, ◌≤◌, All, List, [], ◌∷◌, length, get_or, Option, None, Ok, Some, drop, ap, arith}
use Rattle.std.proofs.lemmas.List.{get_or_default, length-append, length-drop}
use Rattle.dwz_model.proofs.ListFacts.{got_there, item_got}
use Rattle.dwz_unit.proofs.RowsFound.{rows-length}
use Rattle.dwz_def_reading.specs.Documents.{Compile, DwUnit, Entries, Kind, OfType, Partial}
use Rattle.dwz_def_reading.specs.Meanings.{Around, MeanUnits, scope_of}
use Rattle.dwz_def_reading.specs.Meant.{units_meaning}
use Rattle.dwz_def_reading.specs.Trees.{End, Entry, size}
use Rattle.dwz_def_reading.specs.Units.{RawUnit, entries_in}
use Rattle.dwz_def_reading.proofs.MeaningUnits.{units_agree}
use Rattle.dwz_def_tops.specs.Spaces.{space_text, tops_under}
use Rattle.dwz_def_check.specs.CrossNames.{cross_tops, unit_tops}
use Rattle.dwz_def_check.proofs.TopLists.{tops_count}
use Rattle.dwz_unit.specs.Rows.{rows_below, rows_of}
use Rattle.dwz_graph.proofs.IndexRoom.{units_same}
use Rattle.dwz_graph.proofs.ListMeans.{means_size}
use Rattle.dwz_check_index.specs.declared.index.CrossStarts.{CrossStarts}
use Rattle.dwz_check_index.specs.declared.index.TopEntry.{TopEntry}
use Rattle.dwz_check_index.specs.EntryRows.{IsEntryRow}
use Rattle.dwz_check_index.specs.Index.{CrossIndex, IsCrossIndex, ListedEntry}
use Rattle.dwz_check_index.proofs.EntryRows.{entry_rows}

not_behind : {X : Type 0} (xs : List X) (i : ℕ) (y : X) (ys : List X) → drop i xs ≡ y ∷ ys → i < length xs
not_behind {X} xs i y ys e = let left : length (drop i xs) ≡ suc (length ys) = ap (λ (w : List X). length w) e in omega (arith, left, length-drop i xs)

-- an entry that is meant by rows is there
entry_there : (around : Around ℕ) (raw : List RawUnit) (i : ℕ) (d : ListedEntry ℕ) → IsEntryRow around raw i d → i < length (rows_of raw)
unfolding rows_below
entry_there around raw i d r = not_behind (rows_of raw) i _ _ r.rows

-- ---- few

under_few : (f : Entries ℕ) → tops_under f ≤ size f
unfolding tops_under
under_few End = omega arith
under_few (Entry e c n) = by (space_text e) (under_few c) (under_few n) where
  by : (o : Option (List ℕ)) → tops_under c ≤ size c → tops_under n ≤ size n → (elim o as (λ _. ℕ) [ None ↦ suc (tops_under n) | Some text ↦ tops_under c + tops_under n ]) ≤ size (Entry e c n)
  by None a b = omega (arith, a, b)
  by (Some text) a b = omega (arith, a, b)

kind_few : (k : Kind ℕ) (u : DwUnit ℕ) → length (unit_tops k u) ≤ size u.below + 1
kind_few Compile u = omega (arith, tops_count [] u.below, under_few u.below)
kind_few (OfType signature main) u = omega arith
kind_few Partial u = omega (arith, tops_count [] u.below, under_few u.below)

tops_fit : (around : Around ℕ) (raw : List RawUnit) (said : List (DwUnit ℕ)) → MeanUnits around raw said → length (cross_tops said) ≤ entries_in raw
unfolding cross_tops entries_in
tops_fit around [] [] h = omega arith
tops_fit around [] (v ∷ said) h = absurd h
tops_fit around (u ∷ raw) [] h = absurd h
tops_fit around (u ∷ raw) (v ∷ said) h =
    omega (arith, kind_few v.kind v, means_size (scope_of around u) u.below v.below h.0.below, tops_fit around raw said h.1, length-append (unit_tops v.kind v) (cross_tops said))

module _ (around : Around ℕ) (raw : List RawUnit) (said : List (DwUnit ℕ)) (means : units_meaning around raw ≡ Ok said) (starts : CrossStarts) (x : CrossIndex) (is : IsCrossIndex starts said x) where
  mean : MeanUnits around raw said
  mean = ((units_agree around raw).ok said).0 means

  pub tops_few : length x.tops ≤ entries_in raw
  tops_few = let many = is.tops.len in omega (arith, many, tops_fit around raw said mean)

  -- there are as many units as it says
  pub units_many : length raw ≡ length said
  units_many = units_same around raw said mean

  -- ---- entries

  pub entries_low : All (λ t. t.entry < entries_in raw) x.tops
  entries_low k d l =
      let many = is.tops.len in
      let t = got_there (cross_tops said) k (omega (arith, l, many)) in
      let top : TopEntry = get_or x.tops k d in
      let entry = (is.tops.each k top t.0 (item_got x.tops k top l (get_or_default x.tops k d top l)) t.1).found in
      let row = entry_rows around raw said means top.entry (t.0.node, t.0.below) entry in
      let low = entry_there around raw top.entry (t.0.node, t.0.below) row in
      omega (arith, low, rows-length raw)
