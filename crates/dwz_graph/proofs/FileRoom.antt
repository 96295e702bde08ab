-- There are no more tops than bytes, so their numbers are small.
use Rattle.std.proofs.Common.{◌≡◌, ℕ, zero, suc, ◌+◌, ◌<◌, ◌≤◌, ◌^◌, List, [], ◌∷◌, Option, Some, None, Ok, refl, ap, subst, ◌∙◌, arith}
use Rattle.dwz_def_reading.specs.Entries.{RawEntry}
use Rattle.dwz_def_reading.specs.Trees.{End, Entry, Forest, size}
use Rattle.dwz_def_reading.specs.Units.{RawUnit, entries_in}
use Rattle.dwz_def_reading.specs.Documents.{Compile, Doc, DwUnit, Entries, Kind, OfType, Partial}
use Rattle.dwz_def_reading.specs.Files.{Limits, around_of, file_meaning, files_meaning, limits_after, longest_file, longest_files, no_files_before}
use Rattle.dwz_def_reading.specs.Meanings.{Around, MeanEntries, MeanUnits, MeaningContext, scope_of}
use Rattle.dwz_def_reading.proofs.FileLemmas.{file_agrees}
use Rattle.dwz_def_tops.specs.Spaces.{space_text, tops_under}
use Rattle.dwz_def_tops.specs.Spots.{top_count, tops_among}
use Rattle.dwz_graph.specs.declared.file.File.{File}
use Rattle.dwz_graph.specs.Files.{AreKept, AreRead, docs_of}
use Rattle.dwz_graph.proofs.GraphLemmas.{files_read}
use Rattle.dwz_graph.specs.declared.index.Starts.{Starts}
use Rattle.dwz_graph.specs.Index.{Index}
use Rattle.dwz_graph.specs.Indexed.{AreIndexed, AreIndexes, first_starts, starts_behind}
use Rattle.dwz_graph.proofs.IndexRoom.{entries_few}
use Rattle.dwz_unit.specs.Rows.{units_of as raw_units}
use Rattle.dwz_graph.specs.Across.{starts_at, starts_from}
use Rattle.dwz_graph.proofs.FileWalk.{first_doc}

under_few : (f : Entries ℕ) → tops_under f ≤ size f
unfolding tops_under
under_few End = omega arith
under_few (Entry e c n) = by (space_text e) (under_few c) (under_few n) where
  by : (o : Option (List ℕ)) → tops_under c ≤ size c → tops_under n ≤ size n → (elim o as (λ _. ℕ) [ None ↦ suc (tops_under n) | Some text ↦ tops_under c + tops_under n ]) ≤ size (Entry e c n)
  by None a b = omega (arith, a, b)
  by (Some text) a b = omega (arith, a, b)

kind_few : (k : Kind ℕ) (f : Entries ℕ) → top_count k f ≤ size f
kind_few Compile f = under_few f
kind_few (OfType signature main) f = omega arith
kind_few Partial f = omega arith

pub size_same : (s : MeaningContext ℕ) (f : Forest RawEntry) (g : Entries ℕ) → MeanEntries s f g → size g ≡ size f
size_same s End End h = refl
size_same s End (Entry d c n) h = absurd h
size_same s (Entry e c n) End h = absurd h
size_same s (Entry e c n) (Entry d c' n') h = (let a = size_same s c c' h.1 in let b = size_same s n n' h.2 in omega arith)

pub tops_few : (around : Around ℕ) (raw : List RawUnit) (said : List (DwUnit ℕ)) → MeanUnits around raw said → tops_among said ≤ entries_in raw
unfolding tops_among entries_in
tops_few around [] [] h = omega arith
tops_few around [] (v ∷ said) h = absurd h
tops_few around (u ∷ raw) [] h = absurd h
tops_few around (u ∷ raw) (v ∷ said) h =
    let a = kind_few v.kind v.below in
    let b = size_same (scope_of around u) u.below v.below h.0.below in
    let more = tops_few around raw said h.1 in
    omega arith

-- a file has fewer than 2^32 entries
pub entries_small : (l : Limits) (bytes : List ℕ) (raw : List RawUnit) (doc : Doc ℕ) → file_meaning l bytes ≡ Ok (raw, doc) → entries_in raw < 2 ^ 32
unfolding longest_file
entries_small l bytes raw doc e =
    let r = ((file_agrees l bytes).ok (raw, doc)).0 e in
    let few = (entries_few l bytes raw doc e).0 in
    let size = r.size.file in
    omega arith

pub no_doc : (l : Limits) (n : ℕ) (d : Doc ℕ) (docs : List (Doc ℕ)) → files_meaning l n [] ≡ Ok (d ∷ docs) → ⊥
unfolding files_meaning
no_doc l n d docs e = cc

room : (most : ℕ) (l : Limits) (contents : List (List ℕ)) (files : List File) (left : Limits) (n : ℕ) (docs : List (Doc ℕ)) (indexes : List Index) (s end : Starts) → AreRead l n contents files left
    → files_meaning l n contents ≡ Ok docs → AreIndexed s docs indexes end
    → s.top + l.bytes ≤ most → (k : ℕ) → (starts_from s docs indexes k).top ≤ most
unfolding starts_from
room most l contents files left n docs indexes s end h m is le zero = omega arith
room most l contents files left n [] indexes s end h m is le (suc k) = omega arith
room most l contents files left n (d ∷ docs) [] s end h m is le (suc k) = absurd is
room most l [] [] left n (d ∷ docs) (x ∷ indexes) s end h m is le (suc k) = absurd (no_doc l n d docs m)
room most l [] (y ∷ files) left n (d ∷ docs) (x ∷ indexes) s end h m is le (suc k) = absurd h
room most l (b ∷ contents) [] left n (d ∷ docs) (x ∷ indexes) s end h m is le (suc k) = absurd h
room most l (b ∷ contents) (y ∷ files) left n (d ∷ docs) (x ∷ indexes) s end h m is le (suc k) =
    let r = first_doc l n b contents y (d ∷ docs) h.0 m in
    let same : r.0 ≡ docs = (let both = r.2 in cc) in
    let doc_is : h.0.doc ≡ d = (let both = r.2 in cc) in
    let raw = raw_units y.units in
    let few = entries_few l b raw h.0.doc h.0.means in
    let a = few.0 in
    let c = few.1 in
    let means = (((file_agrees l b).ok (raw, h.0.doc)).0 h.0.means).means in
    let tops : tops_among d.units ≤ entries_in raw = subst (λ (w : Doc ℕ). tops_among w.units ≤ entries_in raw) doc_is (tops_few (around_of b raw) raw h.0.doc.units means) in
    room most (limits_after l b raw) contents files left (suc n) docs indexes (starts_behind s d x) end h.1 (r.1 ∙ ap (λ (w : List (Doc ℕ)). Ok w) same) is.1 (omega arith) k

pub tops_small : (contents : List (List ℕ)) (files : List File) (indexes : List Index) → AreKept contents files → AreIndexes (docs_of contents) indexes → (k : ℕ)
    → (starts_at (docs_of contents) indexes k).top ≤ 2 ^ 29
unfolding longest_files
tops_small contents files indexes kept is k =
    room (2 ^ 29) no_files_before contents files kept.end 0 (docs_of contents) indexes first_starts is.end kept.are (files_read contents files kept.end kept.are) is.are (omega arith) k
