-- File by file: each has as many units as its document, and all together as many as are counted.
use Rattle.std.proofs.Common.{◌≡◌, ℕ, suc, ◌+◌, List, [], ◌∷◌, ◌++◌, length, map, Ok, refl, ap, ◌∙◌, arith}
use Rattle.std.specs.Prelude.{sum}
use Rattle.std.proofs.lemmas.List.{length-append}
use Rattle.std.proofs.lemmas.List.Sums.{sum_by-cons}
use Rattle.dwz_def_reading.specs.Documents.{Doc}
use Rattle.dwz_def_reading.specs.Files.{Limits, files_meaning, limits_after, no_files_before}
use Rattle.dwz_def_tops.specs.Spots.{named_files, tops_among, units_of}
use Rattle.dwz_graph.specs.declared.file.File.{File}
use Rattle.dwz_graph.specs.Files.{AreKept, AreRead, docs_of}
use Rattle.dwz_graph.proofs.GraphLemmas.{files_read}
use Rattle.dwz_graph.specs.declared.index.Starts.{Starts}
use Rattle.dwz_graph.proofs.IndexRoom.{many_units}
use Rattle.dwz_unit.specs.Rows.{units_of as raw_units}
use Rattle.dwz_graph.specs.Across.{file_units}
use Rattle.dwz_graph.proofs.FileWalk.{first_doc}
use Rattle.dwz_graph.proofs.TopRows.{units_long}
use Rattle.dwz_graph.proofs.FileRoom.{no_doc}

-- ---- of each file

abbrev pub file_count : File → ℕ
file_count f = length (raw_units f.units)

abbrev pub doc_count : Doc ℕ → ℕ
doc_count doc = length doc.units

counted : (l : Limits) (n : ℕ) (contents : List (List ℕ)) (files : List File) (left : Limits) (docs : List (Doc ℕ))
    → AreRead l n contents files left → files_meaning l n contents ≡ Ok docs → map file_count files ≡ map doc_count docs
counted l n [] [] left [] h m = refl
counted l n [] [] left (d ∷ docs) h m = absurd (no_doc l n d docs m)
counted l n [] (y ∷ files) left docs h m = absurd h
counted l n (b ∷ contents) [] left docs h m = absurd h
counted l n (b ∷ contents) (y ∷ files) left docs h m =
    let r = first_doc l n b contents y docs h.0 m in
    let raw = raw_units y.units in
    let here : length raw ≡ length h.0.doc.units = many_units l b raw h.0.doc h.0.means in
    let more = counted (limits_after l b raw) (suc n) contents files left r.0 h.1 r.1 in
    (λ i. here i ∷ more i) ∙ ap (λ (w : List (Doc ℕ)). map doc_count w) r.2

pub counts_are : (contents : List (List ℕ)) (files : List File) → AreKept contents files
    → map file_count files ≡ map doc_count (docs_of contents)
counts_are contents files kept =
    counted no_files_before 0 contents files kept.end (docs_of contents) kept.are (files_read contents files kept.end kept.are)

-- ---- together

summed : (n unit top : ℕ) (docs : List (Doc ℕ)) → sum (map doc_count docs) ≡ length (named_files n unit top docs)
unfolding named_files
summed n unit top [] = refl
summed n unit top (d ∷ docs) =
    let s : Starts = record { unit = unit; top = top; space = 0 } in
    let others = named_files (suc n) (unit + length d.units) (top + tops_among d.units) docs in
    let more = summed (suc n) (unit + length d.units) (top + tops_among d.units) docs in
    let own = units_long s n d in
    let both = length-append (file_units s n d) others in
    let first : sum (map doc_count (d ∷ docs)) ≡ length d.units + sum (map doc_count docs) =
    sum_by-cons (λ (k : ℕ). k) (length d.units) (map doc_count docs) in
    let named : length (named_files n unit top (d ∷ docs)) ≡ length (file_units s n d ++ others) = refl in
    omega (arith, more, own, both, first, named)

pub counts_sum : (docs : List (Doc ℕ)) → sum (map doc_count docs) ≡ length (units_of docs)
counts_sum docs = summed 0 0 0 docs
