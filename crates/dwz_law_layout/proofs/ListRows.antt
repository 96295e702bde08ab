-- Where the rows of a file's tops stand among those of all: behind those of the files before. So it is of spaces, beside their texts.
use Rattle.std.proofs.Common.{◌≡◌, ℕ, zero, suc, ◌+◌, List, [], ◌∷◌, length, map, Some, slice_get, refl, sym, ap, ◌∙◌, arith}
use Rattle.std.proofs.lemmas.List.{length-map}
use Rattle.dwz_def_reading.proofs.ListFacts.{get_first, got_map}
use Rattle.dwz_def_reading.specs.Documents.{Doc}
use Rattle.dwz_def_tops.specs.Spots.{tops_among}
use Rattle.dwz_graph.specs.declared.index.Starts.{Starts}
use Rattle.dwz_graph.specs.declared.index.TopEntry.{TopEntry}
use Rattle.dwz_graph.specs.Index.{Index}
use Rattle.dwz_graph.proofs.TopLemmas.{get_later, many}
use Rattle.dwz_graph.specs.Indexed.{AreIndexed, starts_behind}
use Rattle.dwz_graph.proofs.IndexSteps.{tops_long}
use Rattle.dwz_layout.specs.declared.known.Row.{Row}
use Rattle.dwz_layout.specs.declared.known.SpaceRow.{SpaceRow}
use Rattle.dwz_layout.specs.declared.known.TextAt.{TextAt}
use Rattle.dwz_law_layout.specs.Listed.{entry_row, space_rows, top_rows}

-- ---- tops

abbrev rows_of_tops : ℕ → List TopEntry → List Row
rows_of_tops file tops = map (λ (e : TopEntry). entry_row file e.entry) tops

-- a top of the file with a number, where the first file has number m and begins with top s.top
pub top_there : (s end : Starts) (docs : List (Doc ℕ)) (indexes : List Index) → AreIndexed s docs indexes end
    → (m k : ℕ) (x : Index) → slice_get indexes k ≡ Some x → (j : ℕ) (e : TopEntry) → slice_get x.tops j ≡ Some e
    → (b : ℕ) × (x.starts.top ≡ s.top + b) × (slice_get (top_rows m indexes) (b + j) ≡ Some (entry_row (m + k) e.entry))
unfolding top_rows
top_there s end docs [] h m k x g j e q = absurd cc
top_there s end [] (z ∷ indexes) h m k x g j e q = absurd h
top_there s end (d ∷ docs) (z ∷ indexes) h m zero x g j e q =
    let same : z ≡ x = cc in
    let own : slice_get z.tops j ≡ Some e = ap (λ (w : Index). slice_get w.tops j) same ∙ q in
    let there = get_first (rows_of_tops m z.tops) (top_rows (suc m) indexes) j (entry_row m e.entry) (got_map (λ (w : TopEntry). entry_row m w.entry) z.tops j e own) in
    let file : m ≡ m + 0 = omega arith in
    let place : 0 + j ≡ j = omega arith in
    let none : s.top ≡ s.top + 0 = omega arith in (
      0,
      ap (λ (w : Index). w.starts.top) (sym same) ∙ ap (λ (w : Starts). w.top) h.0.tops.starts_are ∙ none,
      ap (slice_get (top_rows m (z ∷ indexes))) place ∙ there ∙ ap (λ (w : ℕ). Some (entry_row w e.entry)) file,
    )
top_there s end (d ∷ docs) (z ∷ indexes) h m (suc k) x g j e q =
    let r = top_there (starts_behind s d z) end docs indexes h.1 (suc m) k x g j e q in
    let own = rows_of_tops m z.tops in
    let long : length own ≡ tops_among d.units = length-map z.tops (λ (w : TopEntry). entry_row m w.entry) ∙ tops_long s d z h.0 in
    let from = r.1 in
    let place : length own + r.0 + j ≡ length own + (r.0 + j) = omega arith in
    let file : suc m + k ≡ m + suc k = omega arith in (
      length own + r.0,
      omega (arith, from, long),
      ap (slice_get (top_rows m (z ∷ indexes))) place ∙ get_later own (top_rows (suc m) indexes) (r.0 + j) (entry_row (suc m + k) e.entry) r.2
          ∙ ap (λ (w : ℕ). Some (entry_row w e.entry)) file,
    )

-- ---- spaces

-- each row of a space has its texts beside it
pub with_text : (rows : List Row) (texts commons : List TextAt) → length texts ≡ length rows → length commons ≡ length rows → (s : ℕ) (r : Row) → slice_get rows s ≡ Some r
    → (w : SpaceRow) × (w.row ≡ r) × (slice_get (space_rows rows texts commons) s ≡ Some w)
with_text [] texts commons long many s r e = absurd cc
with_text (q ∷ rows) [] commons long many s r e = absurd (omega arith)
with_text (q ∷ rows) (t ∷ texts) [] long many s r e = absurd (omega arith)
with_text (q ∷ rows) (t ∷ texts) (c ∷ commons) long many zero r e = (record { row = q; text = t; common = c }, (let same : q ≡ r = cc in same), refl)
with_text (q ∷ rows) (t ∷ texts) (c ∷ commons) long many (suc s) r e = with_text rows texts commons (omega arith) (omega arith) s r e
