-- How many files, units and tops there are, and in which file a top is.
use Rattle.std.proofs.Common.{◌≡◌, ℕ, zero, suc, ◌+◌, ◌-◌, ◌<◌, ◌≤◌, ◌⊎◌, List, [], ◌∷◌, length, Some, slice_get, Ok, refl, sym, ap, ◌∙◌, inl, inr, arith}
use Rattle.std.proofs.lemmas.Bool.{cases_lt}
use Rattle.std.proofs.lemmas.List.{length-append}
use Rattle.dwz_def_reading.proofs.ListFacts.{got_below, got_there}
use Rattle.dwz_def_reading.specs.Documents.{Doc}
use Rattle.dwz_def_reading.specs.Files.{Limits, files_meaning, limits_after, no_files_before}
use Rattle.dwz_def_tops.specs.Spots.{Top, named_files, tops_among, tops_from, tops_of, units_of}
use Rattle.dwz_graph.specs.declared.file.File.{File}
use Rattle.dwz_graph.specs.Files.{AreKept, AreRead, docs_of}
use Rattle.dwz_graph.proofs.GraphLemmas.{as_many, files_read}
use Rattle.dwz_graph.specs.declared.index.Starts.{Starts}
use Rattle.dwz_graph.specs.Index.{Index, next_starts}
use Rattle.dwz_graph.specs.Indexed.{AreIndexed, AreIndexes, first_starts, starts_behind}
use Rattle.dwz_graph.proofs.IndexRoom.{many_units}
use Rattle.dwz_graph.proofs.IndexSteps.{tops_long}
use Rattle.dwz_unit.specs.Rows.{units_of as raw_units}
use Rattle.dwz_graph.specs.Across.{file_tops, file_units, starts_at, starts_from}
use Rattle.dwz_graph.specs.AcrossLaws.{IsIn}
use Rattle.dwz_graph.proofs.FileWalk.{among, first_doc}
use Rattle.dwz_graph.proofs.TopRows.{file_many, tops_behind, units_long}

-- ---- as many files as documents

docs_many : (l : Limits) (contents : List (List ℕ)) (files : List File) (left : Limits) (n : ℕ) (docs : List (Doc ℕ)) → AreRead l n contents files left → files_meaning l n contents ≡ Ok docs
    → length files ≡ length docs
unfolding files_meaning
docs_many l [] [] left n docs h m = ap length (let same : [] ≡ docs = cc in same)
docs_many l [] (y ∷ files) left n docs h m = absurd h
docs_many l (b ∷ contents) [] left n docs h m = absurd h
docs_many l (b ∷ contents) (y ∷ files) left n docs h m =
    let r = first_doc l n b contents y docs h.0 m in
    ap suc (docs_many (limits_after l b (raw_units y.units)) contents files left (suc n) r.0 h.1 r.1) ∙ ap length r.2

indexes_many : (s end : Starts) (docs : List (Doc ℕ)) (indexes : List Index) → AreIndexed s docs indexes end → length indexes ≡ length docs
indexes_many s end [] [] h = refl
indexes_many s end [] (x ∷ indexes) h = absurd h
indexes_many s end (d ∷ docs) [] h = absurd h
indexes_many s end (d ∷ docs) (x ∷ indexes) h = ap suc (indexes_many (starts_behind s d x) end docs indexes h.1)

pub are_many : (contents : List (List ℕ)) (files : List File) (indexes : List Index) → AreKept contents files → AreIndexes (docs_of contents) indexes
    → (length files ≡ length (docs_of contents)) × (length indexes ≡ length (docs_of contents)) × (length contents ≡ length (docs_of contents))
are_many contents files indexes kept is =
    let a = docs_many no_files_before contents files kept.end 0 (docs_of contents) kept.are (files_read contents files kept.end kept.are) in
    (a, indexes_many first_starts is.end (docs_of contents) indexes is.are, sym (as_many no_files_before 0 contents files kept.end kept.are) ∙ a)

-- ---- behind a file

pub starts_are : (contents : List (List ℕ)) (files : List File) (indexes : List Index) (k : ℕ) (f : File) (x : Index) → AreKept contents files → AreIndexes (docs_of contents) indexes
    → slice_get files k ≡ Some f → slice_get indexes k ≡ Some x
    → (x.starts ≡ starts_at (docs_of contents) indexes k) × (next_starts x (length (raw_units f.units)) ≡ starts_at (docs_of contents) indexes (k + 1))
starts_are contents files indexes k f x kept is p q =
    let r = among contents files indexes k f x kept is p q in
    let from = r.index.tops.starts_are in
    let units : length (raw_units f.units) ≡ length r.read.doc.units = many_units r.limits r.bytes (raw_units f.units) r.read.doc r.read.means in
    let count = tops_long r.starts r.read.doc x r.index in
    let one : suc k ≡ k + 1 = omega arith in (
      from ∙ r.begins,
      (λ j. record { unit = (from j).unit + units j; top = (from j).top + count j; space = (from j).space + length x.spaces }) ∙ r.behind ∙ ap (starts_at (docs_of contents) indexes) one,
    )

next : (s end : Starts) (docs : List (Doc ℕ)) (indexes : List Index) → AreIndexed s docs indexes end → (k : ℕ) (x : Index) → slice_get indexes k ≡ Some x
    → ((starts_from s docs indexes (suc k)).top ≡ (starts_from s docs indexes k).top + length x.tops)
    × ((starts_from s docs indexes (suc k)).space ≡ (starts_from s docs indexes k).space + length x.spaces)
unfolding starts_from
next s end docs [] h k x e = absurd cc
next s end [] (y ∷ indexes) h k x e = absurd h
next s end (d ∷ docs) (y ∷ indexes) h zero x e =
    let same : y ≡ x = cc in
    (ap (λ (n : ℕ). s.top + n) (sym (tops_long s d y h.0)) ∙ ap (λ (w : Index). s.top + length w.tops) same, ap (λ (w : Index). s.space + length w.spaces) same)
next s end (d ∷ docs) (y ∷ indexes) h (suc k) x e = next (starts_behind s d y) end docs indexes h.1 k x e

-- behind a file there are its tops and spaces more
pub next_starts_are : (docs : List (Doc ℕ)) (indexes : List Index) → AreIndexes docs indexes → (k : ℕ) (x : Index) → slice_get indexes k ≡ Some x
    → ((starts_at docs indexes (k + 1)).top ≡ (starts_at docs indexes k).top + length x.tops) × ((starts_at docs indexes (k + 1)).space ≡ (starts_at docs indexes k).space + length x.spaces)
next_starts_are docs indexes is k x e =
    let one : suc k ≡ k + 1 = omega arith in
    let r = next first_starts is.end docs indexes is.are k x e in
    (ap (λ (n : ℕ). (starts_at docs indexes n).top) (sym one) ∙ r.0, ap (λ (n : ℕ). (starts_at docs indexes n).space) (sym one) ∙ r.1)

-- ---- behind all

ends : (n : ℕ) (s end : Starts) (docs : List (Doc ℕ)) (indexes : List Index) → AreIndexed s docs indexes end
    → ((starts_from s docs indexes (length indexes)).unit ≡ s.unit + length (named_files n s.unit s.top docs))
    × ((starts_from s docs indexes (length indexes)).top ≡ s.top + length (tops_from s.unit s.top (named_files n s.unit s.top docs)))
unfolding named_files starts_from tops_from
ends n s end [] [] h = ((let z : s.unit ≡ s.unit + 0 = omega arith in z), (let z : s.top ≡ s.top + 0 = omega arith in z))
ends n s end [] (x ∷ indexes) h = absurd h
ends n s end (d ∷ docs) [] h = absurd h
ends n s end (d ∷ docs) (x ∷ indexes) h =
    let next = starts_behind s d x in
    let others = named_files (suc n) next.unit next.top docs in
    let r = ends (suc n) next end docs indexes h.1 in
    let units = length-append (file_units s n d) others in
    let own = units_long s n d in
    let tops = ap (λ (w : List Top). length w) (tops_behind s n d others) ∙ length-append (file_tops s n d) (tops_from next.unit next.top others) in
    let own_tops = file_many s n d in
    let a = r.0 in
    let b = r.1 in
    (omega arith, omega arith)

pub all_ends : (contents : List (List ℕ)) (indexes : List Index) → AreIndexes (docs_of contents) indexes
    → ((starts_at (docs_of contents) indexes (length indexes)).unit ≡ length (units_of (docs_of contents)))
    × ((starts_at (docs_of contents) indexes (length indexes)).top ≡ length (tops_of (units_of (docs_of contents))))
all_ends contents indexes is =
    let r = ends 0 first_starts is.end (docs_of contents) indexes is.are in
    let a = r.0 in
    let b = r.1 in
    (omega arith, omega arith)

-- ---- the file of a top

record Holds (s : Starts) (indexes : List Index) (n : ℕ) : Type 0 where
  file : ℕ
  x : Index
  got : slice_get indexes file ≡ Some x
  from : x.starts.top ≤ n
  to : n < x.starts.top + length x.tops

later : (s t : Starts) (y : Index) (indexes : List Index) (n : ℕ) → Holds t indexes n → Holds s (y ∷ indexes) n
later s t y indexes n h = record { file = suc h.file; x = h.x; got = h.got; from = h.from; to = h.to }

holds : (m : ℕ) (s end : Starts) (docs : List (Doc ℕ)) (indexes : List Index) (n : ℕ) → AreIndexed s docs indexes end → s.top ≤ n
    → n < s.top + length (tops_from s.unit s.top (named_files m s.unit s.top docs)) → Holds s indexes n
unfolding named_files tops_from
holds m s end [] [] n h ge lt = absurd (omega arith)
holds m s end [] (x ∷ indexes) n h ge lt = absurd h
holds m s end (d ∷ docs) [] n h ge lt = absurd h
holds m s end (d ∷ docs) (x ∷ indexes) n h ge lt = by (cases_lt n (s.top + tops_among d.units)) (λ le less. holds (suc m) (starts_behind s d x) end docs indexes n h.1 le less) where
  by : (n < s.top + tops_among d.units) ⊎ (s.top + tops_among d.units ≤ n)
      → (s.top + tops_among d.units ≤ n → n < s.top + tops_among d.units
      + length (tops_from (s.unit + length d.units) (s.top + tops_among d.units) (named_files (suc m) (s.unit + length d.units) (s.top + tops_among d.units) docs))
      → Holds (starts_behind s d x) indexes n)
      → Holds s (x ∷ indexes) n
  by (inl less) more =
      let from = ap (λ (w : Starts). w.top) h.0.tops.starts_are in
      let long = tops_long s d x h.0 in
      record { file = 0; x = x; got = refl; from = omega arith; to = omega arith }
  by (inr le) more =
      let next = starts_behind s d x in
      let others = named_files (suc m) next.unit next.top docs in
      let tops = ap (λ (w : List Top). length w) (tops_behind s m d others) ∙ length-append (file_tops s m d) (tops_from next.unit next.top others) in
      let own = file_many s m d in
      later s next x indexes n (more le (omega arith))

pub found : (contents : List (List ℕ)) (files : List File) (indexes : List Index) (n : ℕ) → AreKept contents files → AreIndexes (docs_of contents) indexes
    → n < length (tops_of (units_of (docs_of contents))) → IsIn files indexes n
found contents files indexes n kept is lt =
    let h = holds 0 first_starts is.end (docs_of contents) indexes n is.are (omega arith) (omega arith) in
    let m = are_many contents files indexes kept is in
    let within = got_below indexes h.file h.x h.got in
    let a = m.0 in
    let b = m.1 in
    let f = got_there files h.file (omega arith) in
    let from = h.from in
    let to = h.to in
    let e = got_there h.x.tops (n - h.x.starts.top) (omega arith) in
    record { file = h.file; f = f.0; x = h.x; k = n - h.x.starts.top; e = e.0; file_is = f.1; index_is = h.got; top_is = e.1; number = omega arith }

pub files_many : (contents : List (List ℕ)) (files : List File) → AreKept contents files → length files ≡ length (docs_of contents)
files_many contents files kept = docs_many no_files_before contents files kept.end 0 (docs_of contents) kept.are (files_read contents files kept.end kept.are)
