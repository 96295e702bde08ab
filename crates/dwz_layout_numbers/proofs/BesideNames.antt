-- The names of the entries of files and of others behind them.
use Rattle.std.proofs.Common.{◌≡◌, ℕ, zero, suc, ◌+◌, List, [], ◌∷◌, ◌++◌, length, map, Some, slice_get, refl, sym, ap, ◌∙◌, inl, inr, arith}
use Rattle.std.proofs.lemmas.List.{append-nil, append_assoc, length-append, length-map}
use Rattle.dwz_def_reading.specs.Documents.{Doc}
use Rattle.dwz_def_reading.proofs.ListFacts.{get_first}
use Rattle.dwz_def_tops.specs.Spots.{EntryName, Within, named_files, spot_in, spots_from, tops_among, tops_of, units_of}
use Rattle.dwz_graph.specs.Names.{names_from}
use Rattle.dwz_graph.specs.Index.{Index}
use Rattle.dwz_graph.proofs.TopLemmas.{get_cases, get_later}
use Rattle.dwz_def_tops.proofs.FiledTops.{counted, tops_length}
use Rattle.dwz_def_taken.specs.Beside.{as_compile, compile_doc}
use Rattle.dwz_layout_numbers.specs.Images.{IsFile}
use Rattle.dwz_graph.specs.AllNames.{AreTopEntries, all_names, names_of_files}
use Rattle.dwz_layout_numbers.specs.OverLaws.{common_names}
use Rattle.dwz_layout_numbers.proofs.FileRuns.{counted_append, filed, filed_counted, filed_length, many_tops, tops_in_all}

-- ---- names of files behind others

same_names : (ys : List (Doc ℕ)) {u v t w : ℕ} → u ≡ v → t ≡ w → names_of_files u t ys ≡ names_of_files v w ys
same_names ys p q = λ i. names_of_files (p i) (q i) ys

pub names_append : (file unit top : ℕ) (xs ys : List (Doc ℕ)) → names_of_files unit top (xs ++ ys)
    ≡ names_of_files unit top xs ++ names_of_files (unit + length (named_files file unit top xs)) (top + counted (named_files file unit top xs)) ys
unfolding names_of_files named_files counted
names_append file unit top [] ys =
    let u : unit ≡ unit + 0 = omega arith in let t : top ≡ top + 0 = omega arith in same_names ys u t
names_append file unit top (d ∷ xs) ys =
    let name = spot_in (spots_from unit top d.units) in
    let own = filed file name d.units in
    let rest = named_files (suc file) (unit + length d.units) (top + tops_among d.units) xs in
    let names = names_from unit top d.units in
    let others = names_of_files (unit + length d.units) (top + tops_among d.units) xs in
    let long : length (own ++ rest) ≡ length d.units + length rest = length-append own rest ∙ ap (λ (n : ℕ). n + length rest) (filed_length file name d.units) in
    let count : counted (own ++ rest) ≡ tops_among d.units + counted rest = counted_append own rest ∙ ap (λ (n : ℕ). n + counted rest) (filed_counted file name d.units) in
    let u : unit + length d.units + length rest ≡ unit + length (own ++ rest) = omega (arith, long) in
    let t : top + tops_among d.units + counted rest ≡ top + counted (own ++ rest) = omega (arith, count) in
    let behind = names_of_files (unit + length (own ++ rest)) (top + counted (own ++ rest)) ys in
    ap (λ (w : List EntryName). names ++ w)
    (names_append (suc file) (unit + length d.units) (top + tops_among d.units) xs ys ∙ ap (λ (w : List EntryName). others ++ w) (same_names ys u t))
    ∙ sym (append_assoc names others behind)

pub every_names : (docs : List (Doc ℕ)) (common : Doc ℕ) → all_names (docs ++ compile_doc common ∷ []) ≡ all_names docs ++ common_names docs common
unfolding names_of_files
every_names docs common =
    let u : 0 + length (units_of docs) ≡ length (units_of docs) = omega arith in
    let t : 0 + counted (units_of docs) ≡ length (tops_of (units_of docs)) = omega (arith, tops_length 0 0 (units_of docs)) in
    names_append 0 0 0 docs (compile_doc common ∷ []) ∙ ap (λ (w : List EntryName). all_names docs ++ w) (same_names (compile_doc common ∷ []) u t ∙ append-nil (common_names docs common))

-- ---- what is known of files alone holds with others behind them

pub file_beside : (docs more : List (Doc ℕ)) (names : List EntryName) (x : Index) (start : ℕ) → IsFile docs names x start → IsFile (docs ++ more) names x start
file_beside docs more names x start h =
    let rest = names_of_files (0 + length (units_of docs)) (0 + counted (units_of docs)) more in
    record {
      shows = h.shows;
      stand = record {
        before = h.stand.before;
        after = h.stand.after ++ rest;
        parts = names_append 0 0 0 docs more ∙ ap (λ (w : List EntryName). w ++ rest) h.stand.parts
            ∙ append_assoc h.stand.before (names ++ h.stand.after) rest ∙ ap (λ (w : List EntryName). h.stand.before ++ w) (append_assoc names h.stand.after rest);
        start_is = h.stand.start_is;
      };
    }

tops_all : (xs ys : List (Doc ℕ)) → tops_in_all (xs ++ ys) ≡ tops_in_all xs + tops_in_all ys
unfolding tops_in_all
tops_all [] ys = (let e : tops_in_all ys ≡ 0 + tops_in_all ys = omega arith in e)
tops_all (d ∷ xs) ys = (let h = tops_all xs ys in omega (arith, h))

one_all : (doc : Doc ℕ) → tops_in_all (doc ∷ []) ≡ tops_among doc.units
unfolding tops_in_all
one_all doc = omega arith

got_behind : (start : ℕ) (ns : List ℕ) (k n : ℕ) → slice_get (map (λ (i : ℕ). start + i) ns) k ≡ Some n → (i : ℕ) × (slice_get ns k ≡ Some i) × (start + i ≡ n)
got_behind start [] k n e = absurd cc
got_behind start (i ∷ ns) zero n e = (i, refl, cc)
got_behind start (i ∷ ns) (suc k) n e = got_behind start ns k n e

-- the entries of the tops of files, and behind them those of the common file
pub tops_beside : (docs : List (Doc ℕ)) (common : Doc ℕ) (tops ns : List ℕ) → AreTopEntries docs tops → length ns ≡ tops_among (map as_compile common.units)
    → ((k n : ℕ) → slice_get ns k ≡ Some n → slice_get (common_names docs common) n ≡ Some (Within (length (tops_of (units_of docs)) + k) []))
    → AreTopEntries (docs ++ compile_doc common ∷ []) (tops ++ map (λ i. length (all_names docs) + i) ns)
tops_beside docs common tops ns own many named = record {
  many =
      let start = length (all_names docs) in
      let both = length-append tops (map (λ (i : ℕ). start + i) ns) in
      let as_many = length-map ns (λ (i : ℕ). start + i) in
      let all = many_tops (docs ++ compile_doc common ∷ []) in
      let each = tops_all docs (compile_doc common ∷ []) in
      let last = one_all (compile_doc common) in
      let first = many_tops docs in
      let own_many = own.many in
      omega (arith, both, as_many, all, each, last, first, own_many, many);
  each = λ top n e. elim (get_cases tops (map (λ (i : ℕ). length (all_names docs) + i) ns) top n e) [
    | inl a ↦ ap (λ (w : List EntryName). slice_get w n) (every_names docs common) ∙ get_first (all_names docs) (common_names docs common) n (Within top []) (own.each top n a)
    | inr b ↦
        let start = length (all_names docs) in
        let g = got_behind start ns b.0 n b.2 in
        let at = b.1 in
        let own_many = own.many in
        let number : length (tops_of (units_of docs)) + b.0 ≡ top = omega (arith, at, own_many) in
        ap (λ (w : List EntryName). slice_get w n) (every_names docs common) ∙ ap (slice_get (all_names docs ++ common_names docs common)) (sym g.2)
        ∙ get_later (all_names docs) (common_names docs common) g.0 (Within (length (tops_of (units_of docs)) + b.0) []) (named b.0 g.0 g.1)
        ∙ ap (λ (t : ℕ). Some (Within t [])) number
  ];
}
