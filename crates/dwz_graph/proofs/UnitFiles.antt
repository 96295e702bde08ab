-- The numbers of the files of units: as many as each file has units.
use Rattle.std.proofs.Common.{◌≡◌, ℕ, zero, suc, ◌+◌, ◌≤◌, List, [], ◌∷◌, ◌++◌, length, map, take, Some, slice_get, Ok, refl, sym, ap, ◌∙◌, arith}
use Rattle.std.specs.Prelude.{replicate}
use Rattle.std.proofs.lemmas.List.{append-nil, append_assoc, length-take-le, map-append, take_all, take_more}
use Rattle.std.proofs.lemmas.Option.{get_or_from_slice_get}
use Rattle.dwz_def_reading.proofs.ListFacts.{got_below}
use Rattle.dwz_def_reading.specs.Documents.{Doc, DwUnit}
use Rattle.dwz_def_reading.specs.Files.{Limits, files_meaning, limits_after, no_files_before}
use Rattle.dwz_def_tops.specs.Spots.{EntryName, FileUnit, in_file, named, named_files, tops_among, units_of}
use Rattle.dwz_graph.specs.declared.file.File.{File}
use Rattle.dwz_graph.specs.Files.{AreKept, AreRead, docs_of}
use Rattle.dwz_graph.proofs.GraphLemmas.{files_read}
use Rattle.dwz_graph.proofs.IndexRoom.{many_units}
use Rattle.dwz_unit.specs.Rows.{units_of as raw_units}
use Rattle.dwz_graph.proofs.FileWalk.{first_doc}

-- the number of its file for each unit; the first file has that number
unfoldable pub files_from : ℕ → List (Doc ℕ) → List ℕ
files_from n [] = []
files_from n (doc ∷ docs) = replicate (length doc.units) n ++ files_from (suc n) docs

one_file : (n : ℕ) (units : List (DwUnit EntryName)) → map (λ f. f.file) (map (in_file n) units) ≡ replicate (length units) n
one_file n [] = refl
one_file n (u ∷ units) = ap (λ (w : List ℕ). n ∷ w) (one_file n units)

pub named_long : {X Y : Type 0} (f : X → Y) (xs : List X) → length (map f xs) ≡ length xs
named_long f [] = refl
named_long f (x ∷ xs) = ap suc (named_long f xs)

files_named : (n unit top : ℕ) (docs : List (Doc ℕ)) → map (λ f. f.file) (named_files n unit top docs) ≡ files_from n docs
unfolding files_from named_files
files_named n unit top [] = refl
files_named n unit top (doc ∷ docs) =
    map-append (λ (f : FileUnit EntryName). f.file) (map (in_file n) (named unit top doc.units)) (named_files (suc n) (unit + length doc.units) (top + tops_among doc.units) docs)
    ∙ (λ i. (one_file n (named unit top doc.units) ∙ ap (λ (k : ℕ). replicate k n) (named_long _ doc.units)) i ++ files_named (suc n) (unit + length doc.units) (top + tops_among doc.units) docs i)

-- those of all units
pub all_files : (docs : List (Doc ℕ)) → map (λ f. f.file) (units_of docs) ≡ files_from 0 docs
all_files docs = files_named 0 0 0 docs

-- those of one file more
pub files_more : (n : ℕ) (docs : List (Doc ℕ)) (doc : Doc ℕ) → files_from n (docs ++ doc ∷ []) ≡ files_from n docs ++ replicate (length doc.units) (n + length docs)
unfolding files_from
files_more n [] doc = let z : n ≡ n + 0 = omega arith in append-nil (replicate (length doc.units) n) ∙ ap (replicate (length doc.units)) z
files_more n (d ∷ docs) doc =
    let z : suc n + length docs ≡ n + suc (length docs) = omega arith in
    ap (λ (w : List ℕ). replicate (length d.units) n ++ w) (files_more (suc n) docs doc ∙ ap (λ (k : ℕ). files_from (suc n) docs ++ replicate (length doc.units) k) z)
    ∙ sym (append_assoc (replicate (length d.units) n) (files_from (suc n) docs) (replicate (length doc.units) (n + suc (length docs))))

files_more_at : (docs : List (Doc ℕ)) (doc : Doc ℕ) → files_from 0 (docs ++ doc ∷ []) ≡ files_from 0 docs ++ replicate (length doc.units) (length docs)
files_more_at docs doc = files_more 0 docs doc ∙ (let z : 0 + length docs ≡ length docs = omega arith in ap (λ (n : ℕ). files_from 0 docs ++ replicate (length doc.units) n) z)

doc_there : (l : Limits) (n : ℕ) (contents : List (List ℕ)) (files : List File) (left : Limits) (docs : List (Doc ℕ)) → AreRead l n contents files left → files_meaning l n contents ≡ Ok docs
    → (k : ℕ) (f : File) → slice_get files k ≡ Some f
    → (doc : Doc ℕ) × (slice_get docs k ≡ Some doc) × (length (raw_units f.units) ≡ length doc.units)
doc_there l n [] [] left docs h m k f e = absurd cc
doc_there l n [] (y ∷ files) left docs h m k f e = absurd h
doc_there l n (b ∷ contents) [] left docs h m k f e = absurd h
doc_there l n (b ∷ contents) (y ∷ files) left docs h m zero f e =
    let r = first_doc l n b contents y docs h.0 m in
    let same : y ≡ f = cc in
    (h.0.doc, ap (λ (w : List (Doc ℕ)). slice_get w 0) (sym r.2), ap (λ (w : File). length (raw_units w.units)) (sym same) ∙ many_units l b (raw_units y.units) h.0.doc h.0.means)
doc_there l n (b ∷ contents) (y ∷ files) left docs h m (suc k) f e =
    let r = first_doc l n b contents y docs h.0 m in
    let o = doc_there (limits_after l b (raw_units y.units)) (suc n) contents files left r.0 h.1 r.1 k f e in
    (o.0, ap (λ (w : List (Doc ℕ)). slice_get w (suc k)) (sym r.2) ∙ o.1, o.2)

-- the document of a file
pub doc_of : (contents : List (List ℕ)) (files : List File) → AreKept contents files → (k : ℕ) (f : File) → slice_get files k ≡ Some f → (doc : Doc ℕ) × (slice_get (docs_of contents) k ≡ Some doc)
    × (length (raw_units f.units) ≡ length doc.units)
doc_of contents files kept k f e = doc_there no_files_before 0 contents files kept.end (docs_of contents) kept.are (files_read contents files kept.end kept.are) k f e

-- ---- file by file

pub files_none : [] ≡ files_from 0 []
unfolding files_from
files_none = refl

pub files_step : (contents : List (List ℕ)) (files : List File) → AreKept contents files → (k : ℕ) (f : File) → slice_get files k ≡ Some f → (now new : List ℕ) (count : ℕ)
    → now ≡ files_from 0 (take k (docs_of contents)) → count ≡ length (raw_units f.units)
    → new ≡ now ++ replicate count k → new ≡ files_from 0 (take (k + 1) (docs_of contents))
files_step contents files kept k f got now new count is many put =
    let d = doc_of contents files kept k f got in
    let docs = docs_of contents in
    let lt = got_below docs k d.0 d.1 in
    let long : length (take k docs) ≡ k = length-take-le k docs (omega arith) in
    let taken : take (k + 1) docs ≡ take k docs ++ d.0 ∷ [] = take_more docs k d.0 lt ∙ ap (λ (w : Doc ℕ). take k docs ++ w ∷ []) (get_or_from_slice_get docs k d.0 d.0 d.1) in
    put
    ∙ (λ i. is i ++ replicate ((many ∙ d.2) i) (sym long i))
    ∙ sym (files_more_at (take k docs) d.0)
    ∙ ap (files_from 0) (sym taken)

pub files_end : (docs : List (Doc ℕ)) (k : ℕ) (now : List ℕ) → length docs ≤ k → now ≡ files_from 0 (take k docs) → now ≡ map (λ f. f.file) (units_of docs)
files_end docs k now le is = is ∙ ap (files_from 0) (take_all k docs le) ∙ sym (all_files docs)
