-- The file of a top is found by halving: it begins at or before the top, and the next one begins behind it.
use Rattle.std.proofs.Common.{◌≡◌, ℕ, ◌+◌, ◌^◌, ◌<◌, ◌≤◌, List, length, Some, slice_get, sym, ap, ◌∙◌, ⊎_elim, subst, arith}
use Rattle.std.proofs.lemmas.Bool.{cases_lt}
use Rattle.dwz_def_reading.proofs.ListFacts.{got_there}
use Rattle.dwz_def_tops.specs.Spots.{tops_of, units_of}
use Rattle.dwz_graph.specs.Across.{starts_at, starts_from}
use Rattle.dwz_graph.proofs.FileCounts.{all_ends, are_many, starts_are}
use Rattle.dwz_graph.proofs.FileRoom.{tops_small}
use Rattle.dwz_label_files.specs.Run.{IsInFile}
use Rattle.dwz_graph.specs.declared.file.File.{File}
use Rattle.dwz_graph.specs.Files.{AreKept, docs_of}
use Rattle.dwz_graph.specs.declared.index.Starts.{Starts}
use Rattle.dwz_graph.specs.Index.{Index}
use Rattle.dwz_graph.specs.Indexed.{AreIndexes}

-- the file is one of these
pub record Between (contents : List (List ℕ)) (indexes : List Index) (n low high : ℕ) : Type 0 where
  pub some : low < high
  pub within : high ≤ length indexes
  pub from : (starts_at (docs_of contents) indexes low).top ≤ n
  pub to : n < (starts_at (docs_of contents) indexes high).top

pub all_between : (contents : List (List ℕ)) (indexes : List Index) (n : ℕ) → AreIndexes (docs_of contents) indexes → n < length (tops_of (units_of (docs_of contents)))
    → Between contents indexes n 0 (length indexes)
unfolding starts_from
all_between contents indexes n indexed lt =
    let e = all_ends contents indexes indexed in
    let tops = e.1 in
    let to : n < (starts_at (docs_of contents) indexes (length indexes)).top = omega arith in
    record {
      some = ⊎_elim (λ less. less) (λ none. absurd (
          let zero_long : length indexes ≡ 0 = omega arith in
          let no : n < 0 = subst (λ (k : ℕ). n < (starts_at (docs_of contents) indexes k).top) zero_long to in
          omega arith)) (cases_lt 0 (length indexes));
      within = omega arith;
      from = omega arith;
      to = to;
    }

module _ (contents : List (List ℕ)) (files : List File) (indexes : List Index) (kept : AreKept contents files) (indexed : AreIndexes (docs_of contents) indexes) where
  file_there : (k : ℕ) → k < length indexes → (f : File) × (slice_get files k ≡ Some f)
  file_there k lt = got_there files k (let m = are_many contents files indexes kept indexed in let a = m.0 in let b = m.1 in omega arith)

  begins : (k : ℕ) (x : Index) → k < length indexes → slice_get indexes k ≡ Some x → x.starts ≡ starts_at (docs_of contents) indexes k
  begins k x lt got = let f = file_there k lt in (starts_are contents files indexes k f.0 x kept indexed f.1 got).0

  pub upper : (n low high middle : ℕ) (x : Index) → Between contents indexes n low high → low < middle → middle < high → slice_get indexes middle ≡ Some x → x.starts.top ≤ n
      → Between contents indexes n middle high
  upper n low high middle x h more less got le =
      let within = h.within in
      let at = ap (λ (w : Starts). w.top) (begins middle x (omega arith) got) in
      record { some = less; within = h.within; from = omega arith; to = h.to }

  pub lower : (n low high middle : ℕ) (x : Index) → Between contents indexes n low high → low < middle → middle < high → slice_get indexes middle ≡ Some x → n < x.starts.top
      → Between contents indexes n low middle
  lower n low high middle x h more less got lt =
      let within = h.within in
      let at = ap (λ (w : Starts). w.top) (begins middle x (omega arith) got) in
      record { some = more; within = omega arith; from = h.from; to = omega arith }

  pub one_left : (n low high : ℕ) → Between contents indexes n low high → high ≡ low + 1 → IsInFile files indexes low n
  one_left n low high h last =
      let within = h.within in
      let x = got_there indexes low (omega arith) in
      let f = file_there low (omega arith) in
      let st = starts_are contents files indexes low f.0 x.0 kept indexed f.1 x.1 in
      let own = ap (λ (w : Starts). w.top) st.0 in
      let next = ap (λ (w : Starts). w.top) st.1 in
      let ends : n < (starts_at (docs_of contents) indexes (low + 1)).top = subst (λ (k : ℕ). n < (starts_at (docs_of contents) indexes k).top) last h.to in
      let from = h.from in
      record { f = f.0; x = x.0; got = f.1; index = x.1; from = omega arith; to = omega arith }

-- ---- how many there are

pub no_tops : (contents : List (List ℕ)) (indexes : List Index) → AreIndexes (docs_of contents) indexes → length indexes ≡ 0 → 0 ≡ length (tops_of (units_of (docs_of contents)))
unfolding starts_from
no_tops contents indexes indexed none = sym (ap (λ (k : ℕ). (starts_at (docs_of contents) indexes k).top) none) ∙ (all_ends contents indexes indexed).1

-- the last file ends with them
pub last_tops : (contents : List (List ℕ)) (files : List File) (indexes : List Index) (k : ℕ) (x : Index) → AreKept contents files → AreIndexes (docs_of contents) indexes → k + 1 ≡ length indexes
    → slice_get indexes k ≡ Some x
    → (x.starts.top + length x.tops ≡ length (tops_of (units_of (docs_of contents)))) × (x.starts.top + length x.tops ≤ 2 ^ 29)
last_tops contents files indexes k x kept indexed last got =
    let f = file_there contents files indexes kept indexed k (omega arith) in
    let st = starts_are contents files indexes k f.0 x kept indexed f.1 got in
    let next = ap (λ (w : Starts). w.top) st.1 in
    let small = tops_small contents files indexes kept indexed (k + 1) in
    (next ∙ ap (λ (j : ℕ). (starts_at (docs_of contents) indexes j).top) last ∙ (all_ends contents indexes indexed).1, omega arith)
