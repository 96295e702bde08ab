-- Rows of units, one behind the other: those of a file begin at the number of its first unit.
use Rattle.std.proofs.Common.{◌≡◌, ℕ, ◌+◌, ◌<◌, List, [], ◌∷◌, ◌++◌, length, Some, slice_get, refl, sym, ap, subst, ◌∙◌, ⊎_elim, arith}
use Rattle.std.proofs.lemmas.Bool.{cases_lt}
use Rattle.std.proofs.lemmas.List.{append-nil, append_assoc, length-append}
use Rattle.dwz_graph.specs.Across.{starts_at, starts_from}
use Rattle.dwz_graph.proofs.FileCounts.{are_many, starts_are}
use Rattle.dwz_label_files.specs.declared.unit.UnitRow.{UnitRow}
use Rattle.dwz_label_files.specs.Unit.{AddsRows, HasRow, HaveRows, IsUnitRow}
use Rattle.dwz_def_reading.specs.Units.{RawUnit}
use Rattle.dwz_def_reading.proofs.ListFacts.{got_below, got_there, same_got}
use Rattle.dwz_graph.specs.declared.file.File.{File}
use Rattle.dwz_graph.specs.Files.{AreKept, docs_of}
use Rattle.dwz_graph.specs.declared.index.Starts.{Starts}
use Rattle.dwz_graph.specs.Index.{Index, next_starts}
use Rattle.dwz_graph.specs.Indexed.{AreIndexes}
use Rattle.dwz_unit.proofs.UnitThere.{get_behind, get_front}
use Rattle.dwz_unit.specs.Rows.{units_of as raw_units}

-- ---- one file

row_front : (raw : List RawUnit) (rows more : List UnitRow) (n i : ℕ) → HasRow raw rows n i → HasRow raw (rows ++ more) n i
row_front raw rows more n i h = record { row = h.row; got = get_front rows more i (got_below rows i h.row h.got) ∙ h.got; is = h.is }

row_behind : (raw : List RawUnit) (rows more : List UnitRow) (n i j : ℕ) → j ≡ length rows + i → HasRow raw more n i → HasRow raw (rows ++ more) n j
row_behind raw rows more n i j e h = record { row = h.row; got = ap (slice_get (rows ++ more)) e ∙ get_behind rows more i ∙ h.got; is = h.is }

pub no_rows : (raw : List RawUnit) (old : List UnitRow) → AddsRows raw 0 old old
no_rows raw old = record { more = []; is = sym (append-nil old); many = refl; each = λ n lt. absurd (omega arith) }

pub rows_more : (raw : List RawUnit) (k : ℕ) (old rows new : List UnitRow) (row : UnitRow) → AddsRows raw k old rows → IsUnitRow raw k row → new ≡ rows ++ row ∷ [] → AddsRows raw (k + 1) old new
rows_more raw k old rows new row h is e = record {
  more = h.more ++ row ∷ [];
  is = e ∙ ap (λ (w : List UnitRow). w ++ row ∷ []) h.is ∙ append_assoc old h.more (row ∷ []);
  many = (let many = h.many in let both = length-append h.more (row ∷ []) in omega arith);
  each = λ n lt. ⊎_elim (λ less. row_front raw h.more (row ∷ []) n n (h.each n less)) (λ least. at n (let many = h.many in omega arith) (omega arith)) (cases_lt n k);
} where
  at : (n : ℕ) → n ≡ length h.more + 0 → n ≡ k → HasRow raw (h.more ++ row ∷ []) n n
  at n at_end last = row_behind raw h.more (row ∷ []) n 0 n at_end (record { row = row; got = refl; is = subst (λ (m : ℕ). IsUnitRow raw m row) (sym last) is })

-- ---- all files

-- those of the first files
pub record RowsTo (contents : List (List ℕ)) (files : List File) (indexes : List Index) (k : ℕ) (rows : List UnitRow) : Type 0 where
  pub many : length rows ≡ (starts_at (docs_of contents) indexes k).unit
  pub are : HaveRows files indexes k rows

pub none_yet : (contents : List (List ℕ)) (files : List File) (indexes : List Index) (rows : List UnitRow) → rows ≡ [] → RowsTo contents files indexes 0 rows
unfolding starts_from
none_yet contents files indexes rows e = record { many = ap (λ (w : List UnitRow). length w) e; are = λ file f x lt. absurd (omega arith) }

pub file_more : (contents : List (List ℕ)) (files : List File) (indexes : List Index) (k : ℕ) (f : File) (rows new : List UnitRow) → AreKept contents files → AreIndexes (docs_of contents) indexes
    → slice_get files k ≡ Some f → RowsTo contents files indexes k rows
    → AddsRows (raw_units f.units) (length (raw_units f.units)) rows new → RowsTo contents files indexes (k + 1) new
file_more contents files indexes k f rows new kept indexed got h adds = record {
  many = (
      let whole = ap (λ (w : List UnitRow). length w) adds.is ∙ length-append rows adds.more in
      let many = adds.many in
      let before = h.many in
      let own = ap (λ (w : Starts). w.unit) st.0 in
      let next = ap (λ (w : Starts). w.unit) st.1 in
      omega arith);
  are = λ file g y lt p q. ⊎_elim (λ less. older file g y less p q) (λ least. newest file g y (omega arith) p q) (cases_lt file k);
} where
  raw : List RawUnit
  raw = raw_units f.units

  within : k < length indexes
  within = let m = are_many contents files indexes kept indexed in let a = m.0 in let b = m.1 in let below = got_below files k f got in omega arith

  x : (y : Index) × (slice_get indexes k ≡ Some y)
  x = got_there indexes k within

  st : (x.0.starts ≡ starts_at (docs_of contents) indexes k) × (next_starts x.0 (length raw) ≡ starts_at (docs_of contents) indexes (k + 1))
  st = starts_are contents files indexes k f x.0 kept indexed got x.1

  older : (file : ℕ) (g : File) (y : Index) → file < k → slice_get files file ≡ Some g → slice_get indexes file ≡ Some y → (n : ℕ) → n < length (raw_units g.units)
      → HasRow (raw_units g.units) new n (y.starts.unit + n)
  older file g y less p q n lt = subst (λ (w : List UnitRow). HasRow (raw_units g.units) w n (y.starts.unit + n)) (sym adds.is)
      (row_front (raw_units g.units) rows adds.more n (y.starts.unit + n) (h.are file g y less p q n lt))

  own : (n : ℕ) → n < length raw → HasRow raw new n (x.0.starts.unit + n)
  own n lt =
      let at : x.0.starts.unit + n ≡ length rows + n = (let a = h.many in let b = ap (λ (w : Starts). w.unit) st.0 in omega arith) in
      subst (λ (w : List UnitRow). HasRow raw w n (x.0.starts.unit + n)) (sym adds.is) (row_behind raw rows adds.more n n (x.0.starts.unit + n) at (adds.each n lt))

  newest : (file : ℕ) (g : File) (y : Index) → file ≡ k → slice_get files file ≡ Some g → slice_get indexes file ≡ Some y → (n : ℕ) → n < length (raw_units g.units)
      → HasRow (raw_units g.units) new n (y.starts.unit + n)
  newest file g y last p q =
      let p' : slice_get files k ≡ Some g = ap (slice_get files) (sym last) ∙ p in
      let q' : slice_get indexes k ≡ Some y = ap (slice_get indexes) (sym last) ∙ q in
      let fe : f ≡ g = same_got files k f g got p' in
      let xe : x.0 ≡ y = same_got indexes k x.0 y x.1 q' in
      subst (λ (w : File). (n : ℕ) → n < length (raw_units w.units) → HasRow (raw_units w.units) new n (y.starts.unit + n)) fe
      (subst (λ (w : Index). (n : ℕ) → n < length raw → HasRow raw new n (w.starts.unit + n)) xe own)
