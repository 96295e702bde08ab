-- The numbers of the files of tops, which stand file by file.
use Rattle.std.proofs.Common.{◌≡◌, ℕ, zero, suc, ◌+◌, ◌<◌, ◌≤◌, List, [], ◌∷◌, ◌++◌, length, map, take, drop, get_or, slice_get, Some, sym, ap, subst, ◌∙◌, inl, inr, refl, ⊎_elim, arith}
use Rattle.std.proofs.lemmas.List.{length-map, take_more}
use Rattle.dwz_model.specs.Lists.{EachPair, In}
use Rattle.dwz_model.proofs.ListFacts.{got_below, got_in, got_index_or, got_map, got_there, in_cases}
use Rattle.dwz_model.proofs.Members.{each_in, each_of, in_map_from, pair_append, pair_map, pair_more}
use Rattle.dwz_def_reading.specs.Documents.{Doc, DwUnit}
use Rattle.dwz_def_tops.specs.Spots.{EntryName, FileUnit, Top, in_file, named, named_files, tops_among, tops_of, units_of}
use Rattle.dwz_def_tops.proofs.TopOrder.{InOrder, unit_file, units_rise}
use Rattle.dwz_groups.specs.declared.tops.TopRow.{TopRow}
use Rattle.dwz_match.specs.Kin.{Rise}
use Rattle.dwz_plan.specs.Shows.{ShowsRows}

abbrev Le : ℕ → ℕ → Type 0
Le m n = m ≤ n

got_rise : (fs : List ℕ) (m n x y : ℕ) → EachPair Le fs → slice_get fs m ≡ Some x → slice_get fs n ≡ Some y → m ≤ n → x ≤ y
got_rise [] m n x y h a b le = absurd (let low = got_below [] m x a in omega (arith, low))
got_rise (f ∷ fs) zero zero x y h a b le = (let p : f ≡ x = cc in let q : f ≡ y = cc in omega (arith, p, q))
got_rise (f ∷ fs) zero (suc n) x y h a b le = (let p : f ≡ x = cc in let more : f ≤ y = each_in (Le f) y fs h.0 (got_in fs n y b) in omega (arith, p, more))
got_rise (f ∷ fs) (suc m) zero x y h a b le = absurd (omega (arith, le))
got_rise (f ∷ fs) (suc m) (suc n) x y h a b le = got_rise fs m n x y h.1 a b (omega (arith, le))

-- ---- of units

of_file : (file : ℕ) (us : List (DwUnit EntryName)) (f : FileUnit EntryName) → In f (map (in_file file) us) → f.file ≡ file
of_file file us f i = let o = in_map_from (in_file file) f us i in sym (ap (λ (w : FileUnit EntryName). w.file) o.is)

later_file : (file unit top : ℕ) (docs : List (Doc ℕ)) (f : FileUnit EntryName) → In f (named_files file unit top docs) → file ≤ f.file
unfolding named_files
later_file file unit top [] f i = absurd i
later_file file unit top (doc ∷ docs) f i = ⊎_elim
    (λ (a : In f (map (in_file file) (named unit top doc.units))). let e = of_file file (named unit top doc.units) f a in omega (arith, e))
    (λ (b : In f (named_files (suc file) (unit + length doc.units) (top + tops_among doc.units) docs)).
    let l = later_file (suc file) (unit + length doc.units) (top + tops_among doc.units) docs f b in omega (arith, l))
    (in_cases f (map (in_file file) (named unit top doc.units)) (named_files (suc file) (unit + length doc.units) (top + tops_among doc.units) docs) i)

abbrev FileLe : FileUnit EntryName → FileUnit EntryName → Type 0
FileLe f g = f.file ≤ g.file

same_pairs : (file : ℕ) (xs : List (FileUnit EntryName)) → ((f : FileUnit EntryName) → In f xs → f.file ≡ file) → EachPair FileLe xs
same_pairs file [] h = tt
same_pairs file (x ∷ xs) h = (
  each_of (FileLe x) xs (λ f i. (let a = h x (inl refl) in let b = h f (inr i) in omega (arith, a, b))),
  same_pairs file xs (λ f i. h f (inr i)),
)

files_pairs : (file unit top : ℕ) (docs : List (Doc ℕ)) → EachPair FileLe (named_files file unit top docs)
unfolding named_files
files_pairs file unit top [] = tt
files_pairs file unit top (doc ∷ docs) =
    let own = map (in_file file) (named unit top doc.units) in
    let rest = named_files (suc file) (unit + length doc.units) (top + tops_among doc.units) docs in
    pair_append FileLe own rest (same_pairs file own (of_file file (named unit top doc.units))) (files_pairs (suc file) (unit + length doc.units) (top + tops_among doc.units) docs)
    (λ f g a b. (
    let e = of_file file (named unit top doc.units) f a in
    let l = later_file (suc file) (unit + length doc.units) (top + tops_among doc.units) docs g b in
    omega (arith, e, l)))

-- ---- of tops

module _ (docs : List (Doc ℕ)) where
  abbrev fs : List ℕ
  fs = map (λ f. f.file) (units_of docs)

  units_le : EachPair Le fs
  units_le = pair_map FileLe Le (λ f. f.file) (units_of docs) (files_pairs 0 0 0 docs) (λ f g a b h. h)

  tops_le : EachPair (λ (a b : Top). a.file ≤ b.file) (tops_of (units_of docs))
  tops_le =
      pair_more InOrder (λ (a b : Top). a.file ≤ b.file) (tops_of (units_of docs)) (units_rise 0 0 (units_of docs))
      (λ a b x y le. got_rise fs a.unit b.unit a.file b.file units_le (unit_file (units_of docs) a x) (unit_file (units_of docs) b y) le)

  numbers_le : EachPair Le (map (λ (t : Top). t.file) (tops_of (units_of docs)))
  numbers_le = pair_map (λ (a b : Top). a.file ≤ b.file) Le (λ (t : Top). t.file) (tops_of (units_of docs)) tops_le (λ a b x y h. h)

  pub files_rise : Rise (map (λ t. t.file) (tops_of (units_of docs)))
  files_rise m n le l =
      let all = map (λ (t : Top). t.file) (tops_of (units_of docs)) in
      let a = got_there all m (omega (arith, le, l)) in
      let b = got_there all n l in
      let x : get_or all m 0 ≡ a.0 = got_index_or all m a.0 0 a.1 in
      let y : get_or all n 0 ≡ b.0 = got_index_or all n b.0 0 b.1 in
      let r : a.0 ≤ b.0 = got_rise all m n a.0 b.0 numbers_le a.1 b.1 le in
      omega (arith, x, y, r)

  -- ---- from rows

  pub rows_many : (units : List (FileUnit EntryName)) (rows : List TopRow) (tops : List Top) → ShowsRows units rows tops → length rows ≡ length tops
  rows_many units [] [] h = refl
  rows_many units [] (t ∷ tops) h = absurd h
  rows_many units (r ∷ rows) [] h = absurd h
  rows_many units (r ∷ rows) (t ∷ tops) h = ap suc (rows_many units rows tops h.1)

  pub record RowAt (tops : List Top) (k : ℕ) (row : TopRow) : Type 0 where
    pub top : Top
    pub got : slice_get tops k ≡ Some top
    pub unit : row.unit ≡ top.unit

  pub row_top : (units : List (FileUnit EntryName)) (rows : List TopRow) (tops : List Top) (k : ℕ) (row : TopRow) → ShowsRows units rows tops → slice_get rows k ≡ Some row → RowAt tops k row
  row_top units [] tops k row h e = absurd (let low = got_below [] k row e in omega (arith, low))
  row_top units (r ∷ rows) [] k row h e = absurd h
  row_top units (r ∷ rows) (t ∷ tops) zero row h e = (let p : r ≡ row = cc in record { top = t; got = refl; unit = ap (λ (w : TopRow). w.unit) (sym p) ∙ h.0.unit })
  row_top units (r ∷ rows) (t ∷ tops) (suc k) row h e = (let o = row_top units rows tops k row h.1 e in record { top = o.top; got = o.got; unit = o.unit })

  pub record FileAt (list : List ℕ) (k : ℕ) (row : TopRow) : Type 0 where
    pub low : row.unit < length list
    pub is : slice_get (map (λ (t : Top). t.file) (tops_of (units_of docs))) k ≡ Some (get_or list row.unit 0)

  pub file_at : (rows : List TopRow) (list : List ℕ) (k : ℕ) (row : TopRow) → ShowsRows (units_of docs) rows (tops_of (units_of docs)) → list ≡ fs → slice_get rows k ≡ Some row → FileAt list k row
  file_at rows list k row h same e =
      let o = row_top (units_of docs) rows (tops_of (units_of docs)) k row h e in
      let t = o.top in
      let found : slice_get list row.unit ≡ Some t.file =
      (λ i. slice_get (same i) (o.unit i)) ∙ unit_file (units_of docs) t (got_in (tops_of (units_of docs)) k t o.got) in
      record {
        low = got_below list row.unit t.file found;
        is = got_map (λ (w : Top). w.file) (tops_of (units_of docs)) k t o.got ∙ ap (λ (n : ℕ). Some n) (sym (got_index_or list row.unit t.file 0 found));
      }

-- one number more
pub next_file : (all : List ℕ) (k n : ℕ) (files : List ℕ) → files ≡ take k all → slice_get all k ≡ Some n → files ++ n ∷ [] ≡ take (k + 1) all
next_file all k n files is got =
    let item : n ≡ get_or all k 0 = sym (got_index_or all k n 0 got) in
    let low = got_below all k n got in
    (λ i. is i ++ item i ∷ []) ∙ sym (take_more all k 0 low)
