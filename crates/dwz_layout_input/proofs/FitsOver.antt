-- Files with a common file behind them: their tops are entries of both, and few.
use Rattle.std.proofs.Common.{◌≡◌, ℕ, zero, suc, ◌+◌, ◌<◌, ◌≤◌, All, List, [], ◌∷◌, ◌++◌, Some, length, map, slice_get, refl, sym, ap, subst, ◌∙◌, arith}
use Rattle.std.proofs.lemmas.List.{drop_all, length-append, length-map}
use Rattle.std.proofs.lemmas.Option.{get_or_from_slice_get}
use Rattle.dwz_def_reading.specs.Documents.{Doc}
use Rattle.dwz_def_reading.proofs.ListFacts.{got_below, got_there}
use Rattle.dwz_def_tops.specs.Spots.{EntryName, FileUnit, Within, tops_of, units_of}
use Rattle.dwz_def_check.specs.CrossNames.{AtPath, cross_names_from, cross_tops}
use Rattle.dwz_def_taken.specs.Beside.{compile_doc, reused_of, together}
use Rattle.dwz_def_taken.proofs.NamesOver.{together_is}
use Rattle.dwz_check_index.specs.Index.{CrossIndex}
use Rattle.dwz_check_index.specs.declared.index.TopEntry.{TopEntry}
use Rattle.dwz_graph.specs.declared.index.Starts.{Starts}
use Rattle.dwz_graph.specs.Files.{docs_of}
use Rattle.dwz_graph.specs.Index.{Index}
use Rattle.dwz_graph.specs.Indexed.{AreIndexed, AreIndexes, first_starts, starts_behind}
use Rattle.dwz_graph.specs.Names.{names_from}
use Rattle.dwz_graph.proofs.FilesFew.{all_small}
use Rattle.dwz_graph.specs.EntryCounts.{entry_count, tops_from}
use Rattle.dwz_graph.specs.AllNames.{AreTopEntries, all_names, names_of_files}
use Rattle.dwz_layout_numbers.specs.OverLaws.{common_names}
use Rattle.dwz_layout_numbers.specs.Whole.{AreWhole}
use Rattle.dwz_layout_numbers.proofs.BesideNames.{tops_beside}
use Rattle.dwz_layout_numbers.proofs.CountLemmas.{Left}
use Rattle.dwz_layout_numbers.proofs.WholeLemmas.{top_entries}
use Rattle.dwz_layout_input.specs.ListedLaws.{FitOverLaw}
use Rattle.dwz_layout_input.specs.Over.{IsBehind, tops_behind}
use Rattle.dwz_layout_input.proofs.CrossTops.{names_step, step_top, tops_many}
use Rattle.dwz_layout_input.proofs.Fits.{fit_by, whole}

-- ---- as many entries as names

names_counted : (s : Starts) (docs : List (Doc ℕ)) (xs : List Index) (end : Starts) → AreIndexed s docs xs end → entry_count xs ≡ length (names_of_files s.unit s.top docs)
unfolding entry_count names_of_files
names_counted s [] [] end h = refl
names_counted s [] (x ∷ xs) end h = absurd h
names_counted s (doc ∷ docs) [] end h = absurd h
names_counted s (doc ∷ docs) (x ∷ xs) end h =
    let next = starts_behind s doc x in
    let both = length-append (names_from s.unit s.top doc.units) (names_of_files next.unit next.top docs) in
    let long = h.0.names.len in
    let rest = names_counted next docs xs end h.1 in
    omega arith

pub entries_counted : (docs : List (Doc ℕ)) (indexes : List Index) → AreIndexes docs indexes → entry_count indexes ≡ length (all_names docs)
entries_counted docs indexes are = names_counted first_starts docs indexes are.end are.are

-- all are counted
pub all_counted : (indexes : List Index) (i count : ℕ) → Left indexes i count → length indexes ≤ i → count ≡ entry_count indexes
unfolding entry_count
all_counted indexes i count h le = (let room = h.room ∙ ap (λ (w : List Index). count + entry_count w) (drop_all i indexes le) in omega arith)

-- ---- the tops of the common file

module _ (docs : List (Doc ℕ)) (common : Doc ℕ) (x : CrossIndex) (behind : IsBehind docs common x) where
  abbrev first : ℕ
  first = length (tops_of (units_of docs))

  abbrev entries : List ℕ
  entries = map (λ (t : TopEntry). t.entry) x.tops

  many : length x.tops ≡ length (cross_tops common.units)
  many = behind.index.tops.len

  -- what a top is called
  named : (k : ℕ) (t : TopEntry) → slice_get x.tops k ≡ Some t → slice_get (common_names docs common) t.entry ≡ Some (Within (first + k) [])
  named k t got =
      let low = got_below x.tops k t got in
      let same = many in
      let c = got_there (cross_tops common.units) k (omega arith) in
      let is = behind.index.tops.each k t c.0 got c.1 in
      step_top (common_names docs common) (cross_names_from 0 first common.units) t.entry is.name.0 (first + k)
      (names_step (length (units_of docs)) 0 first common.units behind.partial) is.name.1

  inside_at : (k : ℕ) (t : TopEntry) → slice_get x.tops k ≡ Some t → t.entry < length x.steps
  inside_at k t got =
      let low = got_below x.tops k t got in
      let same = many in
      let c = got_there (cross_tops common.units) k (omega arith) in
      let is = behind.index.tops.each k t c.0 got c.1 in
      let there = got_below (cross_names_from 0 first common.units) t.entry (is.name.0, AtPath (first + k) []) is.name.1 in
      let long = behind.index.names.len in
      omega arith

  pub behind_inside : All (λ t. t.entry < length x.steps) x.tops
  behind_inside k d lt =
      let o = got_there x.tops k lt in
      subst (λ (t : TopEntry). t.entry < length x.steps) (sym (get_or_from_slice_get x.tops k o.0 d o.1)) (inside_at k o.0 o.1)

  entry_got : (k n : ℕ) → slice_get entries k ≡ Some n → (t : TopEntry) × (slice_get x.tops k ≡ Some t) × (t.entry ≡ n)
  entry_got k n e = by x.tops k e where
    by : (ts : List TopEntry) (k : ℕ) → slice_get (map (λ (t : TopEntry). t.entry) ts) k ≡ Some n → (t : TopEntry) × (slice_get ts k ≡ Some t) × (t.entry ≡ n)
    by [] k e = absurd cc
    by (t ∷ ts) zero e = (t, refl, cc)
    by (t ∷ ts) (suc k) e = by ts k e

  map_twice : (n : ℕ) (ts : List TopEntry) → map (λ (i : ℕ). n + i) (map (λ (t : TopEntry). t.entry) ts) ≡ map (λ (t : TopEntry). n + t.entry) ts
  map_twice n [] = refl
  map_twice n (t ∷ ts) = ap (λ (w : List ℕ). (n + t.entry) ∷ w) (map_twice n ts)

  pub entries_behind : (indexes : List Index) → AreIndexes docs indexes → AreWhole docs → AreTopEntries (docs ++ compile_doc common ∷ []) (tops_behind indexes x)
  entries_behind indexes are wholes =
      let long : length entries ≡ length x.tops = length-map x.tops (λ (t : TopEntry). t.entry) in
      let beside = tops_beside docs common (tops_from 0 indexes) entries (top_entries docs indexes are wholes)
      (long ∙ many ∙ tops_many common.units behind.partial)
      (λ k n got. (let o = entry_got k n got in ap (slice_get (common_names docs common)) (sym o.2) ∙ named k o.0 o.1)) in
      let same : map (λ (i : ℕ). length (all_names docs) + i) entries ≡ map (λ (t : TopEntry). entry_count indexes + t.entry) x.tops =
      map_twice (length (all_names docs)) x.tops ∙ ap (λ (n : ℕ). map (λ (t : TopEntry). n + t.entry) x.tops) (sym (entries_counted docs indexes are)) in
      subst (λ (w : List ℕ). AreTopEntries (docs ++ compile_doc common ∷ []) (tops_from 0 indexes ++ w)) same beside

-- ---- all

pub fit_over : FitOverLaw
fit_over contents files indexes plan common x kept is few behind homes stands =
    let docs = docs_of contents in
    let entries = entries_behind docs common x behind indexes is (whole contents files kept) in
    let all : length (tops_of (together (reused_of docs common))) ≡ length (tops_behind indexes x) =
    ap (λ (us : List (FileUnit EntryName)). length (tops_of us)) (together_is docs common) ∙ sym entries.many in
    let small = (all_small contents files indexes kept is).entries in
    let more = behind.few in
    record {
      fit = fit_by contents files indexes plan (length (tops_behind indexes x)) kept is few (homes ∙ all) (stands ∙ all);
      few = omega arith;
      inside = behind_inside docs common x behind;
    }
