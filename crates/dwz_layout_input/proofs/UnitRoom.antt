-- There are no more units than bytes, so their numbers are small.
use Rattle.std.proofs.Common.{◌≡◌, ℕ, zero, suc, ◌+◌, ◌≤◌, ◌^◌, List, [], ◌∷◌, length, Ok, ap, ◌∙◌, arith}
use Rattle.dwz_def_reading.specs.Documents.{Doc}
use Rattle.dwz_def_reading.specs.Files.{Limits, files_meaning, limits_after, longest_files, no_files_before}
use Rattle.dwz_def_tops.specs.Spots.{units_of}
use Rattle.dwz_graph.specs.declared.file.File.{File}
use Rattle.dwz_graph.specs.Files.{AreKept, AreRead, docs_of}
use Rattle.dwz_graph.proofs.GraphLemmas.{files_read}
use Rattle.dwz_graph.specs.declared.index.Starts.{Starts}
use Rattle.dwz_graph.specs.Index.{Index}
use Rattle.dwz_graph.specs.Indexed.{AreIndexed, AreIndexes, first_starts, starts_behind}
use Rattle.dwz_graph.proofs.IndexRoom.{entries_few, many_units}
use Rattle.dwz_unit.specs.Rows.{units_of as raw_units}
use Rattle.dwz_unit.proofs.ShownLemmas.{units_few}
use Rattle.dwz_graph.specs.Across.{starts_from}
use Rattle.dwz_graph.proofs.FileCounts.{all_ends}
use Rattle.dwz_graph.proofs.FileWalk.{first_doc}
use Rattle.dwz_graph.proofs.FileRoom.{no_doc}

room : (most : ℕ) (l : Limits) (contents : List (List ℕ)) (files : List File) (left : Limits) (n : ℕ) (docs : List (Doc ℕ)) (indexes : List Index) (s end : Starts)
    → AreRead l n contents files left → files_meaning l n contents ≡ Ok docs → AreIndexed s docs indexes end → s.unit + l.bytes ≤ most → (k : ℕ) → (starts_from s docs indexes k).unit ≤ most
unfolding starts_from
room most l contents files left n docs indexes s end h m is le zero = omega arith
room most l contents files left n [] indexes s end h m is le (suc k) = omega arith
room most l contents files left n (d ∷ docs) [] s end h m is le (suc k) = absurd is
room most l [] [] left n (d ∷ docs) (x ∷ indexes) s end h m is le (suc k) = absurd (no_doc l n d docs m)
room most l [] (y ∷ files) left n (d ∷ docs) (x ∷ indexes) s end h m is le (suc k) = absurd h
room most l (b ∷ contents) [] left n (d ∷ docs) (x ∷ indexes) s end h m is le (suc k) = absurd h
room most l (b ∷ contents) (y ∷ files) left n (d ∷ docs) (x ∷ indexes) s end h m is le (suc k) =
    let r = first_doc l n b contents y (d ∷ docs) h.0 m in
    let same : r.0 ≡ docs = (let both = r.2 in cc) in
    let doc_is : h.0.doc ≡ d = (let both = r.2 in cc) in
    let raw = raw_units y.units in
    let few = entries_few l b raw h.0.doc h.0.means in
    let a = few.0 in
    let c = few.1 in
    let units : length raw ≡ length d.units = many_units l b raw h.0.doc h.0.means ∙ ap (λ (w : Doc ℕ). length w.units) doc_is in
    let within = units_few raw in
    room most (limits_after l b raw) contents files left (suc n) docs indexes (starts_behind s d x) end h.1 (r.1 ∙ ap (λ (w : List (Doc ℕ)). Ok w) same) is.1 (omega arith) k

pub units_small : (contents : List (List ℕ)) (files : List File) (indexes : List Index) → AreKept contents files → AreIndexes (docs_of contents) indexes → length (units_of (docs_of contents)) ≤ 2 ^ 29
unfolding longest_files
units_small contents files indexes kept is =
    let all = (all_ends contents indexes is).0 in
    let read = files_read contents files kept.end kept.are in
    let small = room (2 ^ 29) no_files_before contents files kept.end 0 (docs_of contents) indexes first_starts is.end kept.are read is.are (omega arith) (length indexes) in
    omega arith
