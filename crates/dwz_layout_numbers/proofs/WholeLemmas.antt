-- The indexes of files, one after the other, against the names of all entries.
use Rattle.std.proofs.Common.{◌≡◌, ℕ, zero, suc, ◌+◌, ◌-◌, ◌<◌, ◌≤◌, List, [], ◌∷◌, ◌++◌, All, length, get_or, map, Some, slice_get, refl, sym, ap, subst, ◌∙◌, inl, inr, arith}
use Rattle.std.proofs.lemmas.List.{append_assoc, length-append, length-map}
use Rattle.std.proofs.lemmas.Option.{slice_get-get_or}
use Rattle.dwz_def_reading.specs.Lists.{Each, In}
use Rattle.dwz_def_reading.proofs.ListFacts.{get_first, got_below, in_left, in_right}
use Rattle.dwz_def_reading.specs.Documents.{Doc}
use Rattle.dwz_def_tops.specs.Lists.{Nth}
use Rattle.dwz_def_tops.specs.Seen.{IsPartial}
use Rattle.dwz_def_tops.proofs.Members.{nth_of}
use Rattle.dwz_def_tops.specs.Spots.{EntryName, FileUnit, Top, Within, in_file, named, named_files, spot_in, spots_from, tops_from as tops_of_units, tops_of, units_of}
use Rattle.dwz_def_tops.proofs.FiledTops.{counted, tops_append}
use Rattle.dwz_graph.specs.declared.index.Starts.{Starts}
use Rattle.dwz_graph.specs.declared.index.TopEntry.{TopEntry}
use Rattle.dwz_graph.specs.Index.{Index}
use Rattle.dwz_graph.specs.Names.{names_from}
use Rattle.dwz_graph.proofs.TopLemmas.{get_cases, get_later, many, named as name_at}
use Rattle.dwz_graph.specs.Indexed.{AreIndexed, AreIndexes, IsIndexOf, first_starts, starts_behind}
use Rattle.dwz_graph.proofs.IndexSteps.{tops_long}
use Rattle.dwz_graph.specs.EntryCounts.{starts_from, tops_from, tops_in}
use Rattle.dwz_graph.specs.AllNames.{AreTopEntries, StandFrom, all_names, names_of_files}
use Rattle.dwz_layout_numbers.specs.Whole.{AreWhole, IsFileAt}
use Rattle.dwz_layout_numbers.proofs.FileRuns.{counted_append, filed, filed_counted, filed_length, many_tops, tops_in_all}

-- ---- tops

top_named : (s : Starts) (doc : Doc ℕ) (x : Index) → IsIndexOf s doc x → Each (λ u. IsPartial u.kind → ⊥) doc.units → (k : ℕ) (t : TopEntry) → slice_get x.tops k ≡ Some t
    → slice_get (names_from s.unit s.top doc.units) t.entry ≡ Some (Within (s.top + k) [])
top_named s doc x h whole k t e = name_at s doc.units whole k t (ap (λ (w : List TopEntry). slice_get w k) (sym h.tops.tops_are) ∙ e)

got : (c : ℕ) (tops : List TopEntry) (k n : ℕ) → slice_get (tops_in c tops) k ≡ Some n → (t : TopEntry) × (slice_get tops k ≡ Some t) × (n ≡ c + t.entry)
got c [] k n e = absurd cc
got c (t ∷ tops) zero n e = (t, refl, (let same : c + t.entry ≡ n = cc in sym same))
got c (t ∷ tops) (suc k) n e = got c tops k n e

tops_named : (s : Starts) (docs : List (Doc ℕ)) (xs : List Index) (end : Starts) → AreIndexed s docs xs end → AreWhole docs → (c k n : ℕ) → slice_get (tops_from c xs) k ≡ Some n
    → (c ≤ n) × (slice_get (names_of_files s.unit s.top docs) (n - c) ≡ Some (Within (s.top + k) []))
unfolding tops_from names_of_files
tops_named s [] [] end h whole c k n e = absurd cc
tops_named s [] (x ∷ xs) end h whole c k n e = absurd h
tops_named s (doc ∷ docs) [] end h whole c k n e = absurd h
tops_named s (doc ∷ docs) (x ∷ xs) end h whole c k n e =
    let names = names_from s.unit s.top doc.units in
    let next = starts_behind s doc x in
    let rest = names_of_files next.unit next.top docs in
    let long = h.0.names.len in
    let tops = tops_long s doc x h.0 in
    elim (get_cases (tops_in c x.tops) (tops_from (c + length x.steps) xs) k n e) [
      | inl a ↦
          let g = got c x.tops k n a in
          let at_n = g.2 in
          let far : n - c ≡ g.0.entry = omega arith in
          (omega arith, ap (slice_get (names ++ rest)) far ∙ get_first names rest g.0.entry (Within (s.top + k) []) (top_named s doc x h.0 whole.0 k g.0 g.1))
      | inr b ↦
          let r = tops_named next docs xs end h.1 whole.1 (c + length x.steps) b.0 n b.2 in
          let at_k = b.1 in
          let le = r.0 in
          let same = length-map x.tops (λ (t : TopEntry). c + t.entry) in
          let far : n - c ≡ length names + (n - (c + length x.steps)) = omega arith in
          let number : next.top + b.0 ≡ s.top + k = omega arith in
          (omega arith, ap (slice_get (names ++ rest)) far ∙ get_later names rest (n - (c + length x.steps)) (Within (next.top + b.0) []) r.1 ∙ ap (λ (w : ℕ). Some (Within w [])) number)
    ]

tops_many : (s : Starts) (docs : List (Doc ℕ)) (xs : List Index) (end : Starts) → AreIndexed s docs xs end → (c : ℕ) → length (tops_from c xs) ≡ tops_in_all docs
unfolding tops_from tops_in_all
tops_many s [] [] end h c = refl
tops_many s [] (x ∷ xs) end h c = absurd h
tops_many s (doc ∷ docs) [] end h c = absurd h
tops_many s (doc ∷ docs) (x ∷ xs) end h c =
    length-append (tops_in c x.tops) (tops_from (c + length x.steps) xs)
    ∙ (λ j. (length-map x.tops (λ (t : TopEntry). c + t.entry) ∙ tops_long s doc x h.0) j + tops_many (starts_behind s doc x) docs xs end h.1 (c + length x.steps) j)

pub top_entries : (docs : List (Doc ℕ)) (xs : List Index) → AreIndexes docs xs → AreWhole docs → AreTopEntries docs (tops_from 0 xs)
top_entries docs xs h whole = record {
  many = tops_many first_starts docs xs h.end h.are 0 ∙ sym (many_tops docs);
  each = λ k n e. (
      let r = tops_named first_starts docs xs h.end h.are whole 0 k n e in
      let none : n ≡ n - 0 = omega arith in
      let top : 0 + k ≡ k = omega arith in
      ap (slice_get (all_names docs)) none ∙ r.1 ∙ ap (λ (w : ℕ). Some (Within w [])) top);
}

-- ---- files

-- a file with what is among all names, units and tops
record FoundAt (all : List EntryName) (units : List (FileUnit EntryName)) (number : ℕ) (doc : Doc ℕ) (s : Starts) (x : Index) (start : ℕ) : Type 0 where
  index : IsIndexOf s doc x
  stand : StandFrom all (names_from s.unit s.top doc.units) start
  units_are : (k : ℕ) (u : FileUnit EntryName) → slice_get (map (in_file number) (named s.unit s.top doc.units)) k ≡ Some u → Nth 0 units (s.unit + k) u
  tops_are : (t : Top) → In t (tops_of_units s.unit s.top (map (in_file number) (named s.unit s.top doc.units))) → In t (tops_of units)

file_found : (all : List EntryName) (units : List (FileUnit EntryName)) (s : Starts) (docs : List (Doc ℕ)) (xs : List Index) (end : Starts) → AreIndexed s docs xs end
    → (before : List EntryName) (c : ℕ) → all ≡ before ++ names_of_files s.unit s.top docs → length before ≡ c
    → (done : List (FileUnit EntryName)) (first : ℕ) → units ≡ done ++ named_files first s.unit s.top docs → length done ≡ s.unit → counted done ≡ s.top
    → (file number start : ℕ) (x : Index) → number ≡ first + file → slice_get xs file ≡ Some x → slice_get (starts_from c xs) file ≡ Some start
    → (w : Starts) × (doc : Doc ℕ) × (slice_get docs file ≡ Some doc) × FoundAt all units number doc w x start
unfolding starts_from names_of_files named_files
file_found all units s [] [] end h before c parts len done first is many tops file number start x n e f = absurd cc
file_found all units s [] (y ∷ xs) end h before c parts len done first is many tops file number start x n e f = absurd h
file_found all units s (doc ∷ docs) [] end h before c parts len done first is many tops file number start x n e f = absurd h
file_found all units s (doc ∷ docs) (y ∷ xs) end h before c parts len done first is many tops zero number start x n e f =
    let same : y ≡ x = cc in
    let here : c ≡ start = cc in
    let this : first ≡ number = omega arith in
    let next = starts_behind s doc y in
    let own = filed first (spot_in (spots_from s.unit s.top doc.units)) doc.units in
    let rest = named_files (suc first) next.unit next.top docs in (
      s,
      doc,
      refl,
      subst (λ (w : ℕ). FoundAt all units w doc s x start) this (record {
        index = subst (IsIndexOf s doc) same h.0;
        stand = record { before = before; after = names_of_files next.unit next.top docs; parts = parts; start_is = len ∙ here };
        units_are = λ k u got_u. (
            let at : slice_get units (s.unit + k) ≡ Some u = (λ j. slice_get (is j) (sym many j + k)) ∙ get_later done (own ++ rest) k u (get_first own rest k u got_u) in
            let none : 0 + (s.unit + k) ≡ s.unit + k = omega arith in
            subst (λ (w : ℕ). Nth 0 units w u) none (nth_of 0 units (s.unit + k) u at));
        tops_are = λ t is_t. subst (λ (w : List (FileUnit EntryName)). In t (tops_of w)) (sym is)
            (subst (In t) (sym (tops_append 0 0 done (own ++ rest)))
            (in_right t (tops_of_units 0 0 done) (tops_of_units (0 + length done) (0 + counted done) (own ++ rest))
            (subst (λ (w : ℕ). In t (tops_of_units w (0 + counted done) (own ++ rest))) (let q : s.unit ≡ 0 + length done = omega arith in q)
            (subst (λ (w : ℕ). In t (tops_of_units s.unit w (own ++ rest))) (let q : s.top ≡ 0 + counted done = omega arith in q)
            (subst (In t) (sym (tops_append s.unit s.top own rest)) (in_left t (tops_of_units s.unit s.top own) (tops_of_units (s.unit + length own) (s.top + counted own) rest) is_t))))));
      }),
    )
file_found all units s (doc ∷ docs) (y ∷ xs) end h before c parts len done first is many tops (suc file) number start x n e f =
    let names = names_from s.unit s.top doc.units in
    let next = starts_behind s doc y in
    let long = h.0.names.len in
    let own = filed first (spot_in (spots_from s.unit s.top doc.units)) doc.units in
    let rest = named_files (suc first) next.unit next.top docs in
    let count : length (before ++ names) ≡ c + length y.steps = length-append before names ∙ (omega (arith, len, long)) in
    let units_many : length (done ++ own) ≡ next.unit = length-append done own ∙ (λ j. many j + filed_length first (spot_in (spots_from s.unit s.top doc.units)) doc.units j) in
    let tops_many : counted (done ++ own) ≡ next.top = counted_append done own ∙ (λ j. tops j + filed_counted first (spot_in (spots_from s.unit s.top doc.units)) doc.units j) in
    file_found all units next docs xs end h.1 (before ++ names) (c + length y.steps) (parts ∙ sym (append_assoc before names (names_of_files next.unit next.top docs))) count
    (done ++ own) (suc first) (is ∙ sym (append_assoc done own rest)) units_many tops_many file number start x (omega (arith, n)) e f

pub file_at : (docs : List (Doc ℕ)) (xs : List Index) → AreIndexes docs xs → (file start : ℕ) (x : Index) → slice_get xs file ≡ Some x → slice_get (starts_from 0 xs) file ≡ Some start
    → IsFileAt docs file x start
unfolding counted
file_at docs xs h file start x e f =
    let n : file ≡ 0 + file = omega arith in
    let r = file_found (all_names docs) (units_of docs) first_starts docs xs h.end h.are [] 0 refl refl [] 0 refl refl refl file file start x n e f in
    record { starts = r.0; doc = r.1; is_doc = r.2; index = r.3.index; stand = r.3.stand; units = r.3.units_are; tops = r.3.tops_are }

-- ---- tops are entries

each_inside : (s : Starts) (docs : List (Doc ℕ)) (xs : List Index) (end : Starts) → AreIndexed s docs xs end → AreWhole docs → (k : ℕ) (d : Index) → k < length xs
    → All (λ t. t.entry < length (get_or xs k d).steps) (get_or xs k d).tops
each_inside s [] [] end h whole k d lt = absurd (omega arith)
each_inside s [] (x ∷ xs) end h whole k d lt = absurd h
each_inside s (doc ∷ docs) [] end h whole k d lt = absurd h
each_inside s (doc ∷ docs) (x ∷ xs) end h whole zero d lt = λ j t less. (
    let e = top_named s doc x h.0 whole.0 j (get_or x.tops j t) (slice_get-get_or x.tops j t less) in
    let len = h.0.names.len in
    let low = got_below (names_from s.unit s.top doc.units) (get_or x.tops j t).entry (Within (s.top + j) []) e in
    omega (arith, len, low))
each_inside s (doc ∷ docs) (x ∷ xs) end h whole (suc k) d lt = each_inside (starts_behind s doc x) docs xs end h.1 whole.1 k d (omega arith)

pub all_inside : (docs : List (Doc ℕ)) (xs : List Index) → AreIndexes docs xs → AreWhole docs → All (λ x. All (λ t. t.entry < length x.steps) x.tops) xs
all_inside docs xs h whole = λ k d lt. each_inside first_starts docs xs h.end h.are whole k d lt
