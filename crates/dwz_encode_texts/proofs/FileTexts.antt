-- Where the texts of an entry begin among those of its file, and which lists a file has.
use Rattle.std.proofs.Common.{◌≡◌, ℕ, zero, suc, ◌+◌, List, [], ◌∷◌, ◌++◌, length, Some, slice_get, refl, ap, subst, ◌∙◌, arith}
use Rattle.std.specs.List.{filter, flat_map}
use Rattle.std.proofs.lemmas.List.{length-map}
use Rattle.std.proofs.lemmas.List.Concat.{flat_map-cons}
use Rattle.std.proofs.lemmas.List.Sums.{length-filter}
use Rattle.dwz_def_reading.specs.Entries.{RawAttr}
use Rattle.dwz_def_reading.specs.Units.{RawUnit}
use Rattle.dwz_def_reading.proofs.ListFacts.{get_first}
use Rattle.dwz_def_reading.specs.Meanings.{Around}
use Rattle.dwz_unit.specs.Rows.{EntryRow}
use Rattle.dwz_graph.specs.declared.file.File.{File}
use Rattle.dwz_graph.specs.Index.{Index}
use Rattle.dwz_graph.proofs.TopLemmas.{get_later}
use Rattle.dwz_layout_numbers.specs.declared.firsts.CountsBefore.{CountsBefore}
use Rattle.dwz_layout_numbers.specs.Befores.{befores_from, behind, is_pair_placed, text_count}
use Rattle.dwz_layout.specs.declared.known.FileRows.{FileRows}
use Rattle.dwz_layout.specs.declared.known.Row.{Row}
use Rattle.dwz_layout.specs.declared.known.SpaceRow.{SpaceRow}
use Rattle.dwz_layout.specs.declared.known.TextAt.{TextAt}
use Rattle.dwz_law_layout.specs.Beside.{Beside}
use Rattle.dwz_law_layout.specs.Facts.{RunFacts}
use Rattle.dwz_law_layout.specs.Listed.{AreRows, IsListed, space_rows}
use Rattle.dwz_encode_texts.specs.Texts.{own_text, row_texts, slots_base_at}

-- ---- the entry with a number

module _ (around : Around ℕ) (raw : List RawUnit) where
  texts_many : (r : EntryRow) → length (row_texts around raw r) ≡ text_count r.entry.attrs
  texts_many r =
      length-map (filter (λ a. is_pair_placed a.pair) r.entry.attrs) (own_text around.sources.offsets (slots_base_at around raw r.unit))
      ∙ length-filter (λ (a : RawAttr). is_pair_placed a.pair) r.entry.attrs

  -- so many texts come before it, and then its own
  pub record HasBefore (rows : List EntryRow) (before : CountsBefore) (i : ℕ) (r : EntryRow) : Type 0 where
    pub b : CountsBefore
    pub is : slice_get (befores_from before rows) i ≡ Some b
    pub from : ℕ
    pub count : b.texts ≡ before.texts + from
    pub stand : (j : ℕ) (t : TextAt) → slice_get (row_texts around raw r) j ≡ Some t → slice_get (flat_map (row_texts around raw) rows) (from + j) ≡ Some t

  pub has_before : (rows : List EntryRow) (before : CountsBefore) (i : ℕ) (r : EntryRow) → slice_get rows i ≡ Some r → HasBefore rows before i r
  unfolding befores_from
  has_before [] before i r e = absurd cc
  has_before (x ∷ rows) before zero r e =
      let same : x ≡ r = cc in
      record {
        b = before;
        is = refl;
        from = 0;
        count = omega arith;
        stand = λ j t h. (
            let none : 0 + j ≡ j = omega arith in
            ap (λ (w : List TextAt). slice_get w (0 + j)) (flat_map-cons (row_texts around raw) x rows)
            ∙ ap (slice_get (row_texts around raw x ++ flat_map (row_texts around raw) rows)) none
            ∙ get_first (row_texts around raw x) (flat_map (row_texts around raw) rows) j t (ap (λ (w : EntryRow). slice_get (row_texts around raw w) j) same ∙ h));
      }
  has_before (x ∷ rows) before (suc i) r e =
      let q = has_before rows (behind before x) i r e in
      let own = row_texts around raw x in
      let many = texts_many x in
      let count = q.count in
      record {
        b = q.b;
        is = q.is;
        from = length own + q.from;
        count = omega arith;
        stand = λ j t h. (
            let place : length own + q.from + j ≡ length own + (q.from + j) = omega arith in
            ap (λ (w : List TextAt). slice_get w (length own + q.from + j)) (flat_map-cons (row_texts around raw) x rows)
            ∙ ap (slice_get (own ++ flat_map (row_texts around raw) rows)) place
            ∙ get_later own (flat_map (row_texts around raw) rows) (q.from + j) t (q.stand j t h));
      }

-- ---- the file with a number

pub record HasRows {beside : Beside} (f : RunFacts beside) (x : File) (index : Index) (texts : List (List TextAt)) (rows : List FileRows) (n : ℕ) : Type 0 where
  pub start : ℕ
  pub own : List TextAt
  pub row : FileRows
  pub own_is : slice_get texts n ≡ Some own
  pub row_is : slice_get rows n ≡ Some row
  pub listed : IsListed f x index start own row

pub has_rows : {beside : Beside} (f : RunFacts beside) (files : List File) (indexes : List Index) (starts : List ℕ) (texts : List (List TextAt)) (rows : List FileRows) → AreRows f files indexes starts texts rows
    → (n : ℕ) (x : File) (index : Index) → slice_get files n ≡ Some x → slice_get indexes n ≡ Some index → HasRows f x index texts rows n
has_rows f [] indexes starts texts rows h n x index p q = absurd cc
has_rows f (y ∷ files) [] starts texts rows h n x index p q = absurd cc
has_rows f (y ∷ files) (z ∷ indexes) [] texts rows h n x index p q = absurd h
has_rows f (y ∷ files) (z ∷ indexes) (start ∷ starts) [] rows h n x index p q = absurd h
has_rows f (y ∷ files) (z ∷ indexes) (start ∷ starts) (t ∷ texts) [] h n x index p q = absurd h
has_rows f (y ∷ files) (z ∷ indexes) (start ∷ starts) (t ∷ texts) (r ∷ rows) h zero x index p q =
    let a : y ≡ x = cc in
    let b : z ≡ index = cc in
    record {
      start = start;
      own = t;
      row = r;
      own_is = refl;
      row_is = refl;
      listed = subst (λ (w : Index). IsListed f x w start t r) b (subst (λ (w : File). IsListed f w z start t r) a h.0);
    }
has_rows f (y ∷ files) (z ∷ indexes) (start ∷ starts) (t ∷ texts) (r ∷ rows) h (suc n) x index p q =
    let g = has_rows f files indexes starts texts rows h.1 n x index p q in
    record { start = g.start; own = g.own; row = g.row; own_is = g.own_is; row_is = g.row_is; listed = g.listed }

-- ---- the space with a number

pub space_row : (rows : List Row) (texts commons : List TextAt) (k : ℕ) (r : Row) (t c : TextAt) → slice_get rows k ≡ Some r → slice_get texts k ≡ Some t → slice_get commons k ≡ Some c
    → slice_get (space_rows rows texts commons) k ≡ Some (record { row = r; text = t; common = c })
space_row [] texts commons k r t c p q o = absurd cc
space_row (x ∷ rows) [] commons k r t c p q o = absurd cc
space_row (x ∷ rows) (y ∷ texts) [] k r t c p q o = absurd cc
space_row (x ∷ rows) (y ∷ texts) (z ∷ commons) zero r t c p q o =
    let same_row : x ≡ r = cc in
    let same_text : y ≡ t = cc in
    let same_common : z ≡ c = cc in
    (λ i. let s : SpaceRow = record { row = same_row i; text = same_text i; common = same_common i } in Some s)
space_row (x ∷ rows) (y ∷ texts) (z ∷ commons) (suc k) r t c p q o = space_row rows texts commons k r t c p q o
