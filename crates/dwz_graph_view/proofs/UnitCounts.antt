-- Units of files by their numbers, file by file; and that there are few of them.
use Rattle.std.proofs.Common.{◌≡◌, ℕ, zero, suc, ◌+◌, ◌-◌, ◌<◌, ◌≤◌, ◌^◌, List, [], ◌∷◌, ◌++◌, length, drop, take, map, Some, slice_get, Ok, refl, ap, ◌∙◌, arith}
use Rattle.std.proofs.lemmas.List.{drop_all, length-append, length-map, take_all}
use Rattle.dwz_def_reading.specs.Documents.{Doc}
use Rattle.dwz_def_reading.specs.Files.{Limits, files_meaning, limits_after, longest_files, no_files_before}
use Rattle.dwz_def_reading.proofs.ListFacts.{drop_here}
use Rattle.dwz_def_tops.specs.Spots.{in_file}
use Rattle.dwz_graph.specs.declared.file.File.{File}
use Rattle.dwz_graph.specs.Files.{AreKept, AreRead, docs_of}
use Rattle.dwz_graph.proofs.GraphLemmas.{files_read}
use Rattle.dwz_graph.proofs.IndexRoom.{entries_few, many_units}
use Rattle.dwz_unit.proofs.UnitThere.{get_behind, get_front}
use Rattle.dwz_unit.specs.Rows.{units_of}
use Rattle.dwz_unit.proofs.ShownLemmas.{units_few}
use Rattle.dwz_graph_view.specs.Finding.{HasUnit}
use Rattle.dwz_graph_view.specs.EntryViews.{units_before}
use Rattle.dwz_graph_view.specs.UnitViews.{all_units, units_from}
use Rattle.dwz_graph_view.proofs.FileDocs.{file_of, first_doc}
use Rattle.dwz_graph.proofs.FileCounts.{files_many}

-- ---- how many there are

none_from : (n : ℕ) → length (units_from n []) ≡ 0
unfolding units_from
none_from n = refl

more_from : (n : ℕ) (doc : Doc ℕ) (docs : List (Doc ℕ)) → length (units_from n (doc ∷ docs)) ≡ length doc.units + length (units_from (suc n) docs)
unfolding units_from
more_from n doc docs = length-append (map (in_file n) doc.units) (units_from (suc n) docs) ∙ ap (λ (k : ℕ). k + length (units_from (suc n) docs)) (length-map doc.units (in_file n))

few_from : (l : Limits) (n m : ℕ) (contents : List (List ℕ)) (files : List File) (left : Limits) (docs : List (Doc ℕ)) → AreRead l n contents files left → files_meaning l n contents ≡ Ok docs
    → length (units_from m docs) ≤ l.bytes
unfolding files_meaning
few_from l n m [] [] left docs h e =
    let none : [] ≡ docs = cc in
    let many = ap (λ (w : List (Doc ℕ)). length (units_from m w)) none in
    omega (arith, many, none_from m)
few_from l n m [] (y ∷ files) left docs h e = absurd h
few_from l n m (b ∷ contents) [] left docs h e = absurd h
few_from l n m (b ∷ contents) (y ∷ files) left docs h e =
    let raw = units_of y.units in
    let r = first_doc l n b contents raw h.0.doc docs h.0.means e in
    let room = entries_few l b raw h.0.doc h.0.means in
    let own = room.0 in
    let within = room.1 in
    let same = many_units l b raw h.0.doc h.0.means in
    let few = units_few raw in
    let more = few_from (limits_after l b raw) (suc n) (suc m) contents files left r.0 h.1 r.1 in
    let long = more_from m h.0.doc r.0 in
    let all = ap (λ (w : List (Doc ℕ)). length (units_from m w)) r.2 in
    omega arith

pub all_few : (contents : List (List ℕ)) (files : List File) → AreKept contents files → length (all_units (docs_of contents)) < 2 ^ 32
unfolding longest_files
all_few contents files kept =
    let few = few_from no_files_before 0 0 contents files kept.end (docs_of contents) kept.are (files_read contents files kept.end kept.are) in
    omega arith

-- ---- counted file by file

-- the units of the files before that one are counted
pub record Counts (contents : List (List ℕ)) (k count : ℕ) : Type 0 where
  pub are : count + length (units_from k (drop k (docs_of contents))) ≡ length (all_units (docs_of contents))

pub counts_begin : (contents : List (List ℕ)) → Counts contents 0 0
counts_begin contents = record { are = omega arith }

pub counts_more : (contents : List (List ℕ)) (files : List File) (k count many : ℕ) (f : File) → AreKept contents files → slice_get files k ≡ Some f → many ≡ length (units_of f.units) → Counts contents k count
    → (count + many < 2 ^ 32) × Counts contents (k + 1) (count + many)
counts_more contents files k count many f kept got is h =
    let o = file_of contents files k f kept got in
    let docs = docs_of contents in
    let few = all_few contents files kept in
    let same = many_units o.limits o.bytes (units_of f.units) o.read.doc o.read.means in
    let here = ap (λ (w : List (Doc ℕ)). length (units_from k w)) (drop_here docs k o.read.doc o.doc_is) in
    let long = more_from k o.read.doc (drop (k + 1) docs) in
    let one : suc k ≡ k + 1 = omega arith in
    let next = ap (λ (n : ℕ). length (units_from n (drop (k + 1) docs))) one in
    let are = h.are in
    (omega arith, record { are = omega arith })

split : (n k : ℕ) (docs : List (Doc ℕ)) → length (units_from n docs) ≡ length (units_from n (take k docs)) + length (units_from (n + k) (drop k docs))
split n zero docs =
    let same : n ≡ n + 0 = omega arith in
    let here = ap (λ (m : ℕ). length (units_from m docs)) same in
    omega (arith, here, none_from n)
split n (suc k) [] = omega (arith, none_from n, none_from (n + suc k))
split n (suc k) (doc ∷ docs) =
    let one : suc n + k ≡ n + suc k = omega arith in
    let more = split (suc n) k docs in
    let here = ap (λ (m : ℕ). length (units_from m (drop k docs))) one in
    omega (arith, more, here, more_from n doc docs, more_from n doc (take k docs))

pub counts_before : (contents : List (List ℕ)) (k file count : ℕ) → k ≡ file → Counts contents k count → count ≡ units_before (docs_of contents) file
counts_before contents k file count same h =
    let docs = docs_of contents in
    let both = split 0 k docs in
    let none : 0 + k ≡ k = omega arith in
    let left = ap (λ (m : ℕ). length (units_from m (drop k docs))) none in
    let are = h.are in
    let here : count ≡ units_before docs k = omega arith in
    here ∙ ap (units_before docs) same

-- with those of the file itself, there are few
pub before_few : (contents : List (List ℕ)) (files : List File) (k : ℕ) (f : File) → AreKept contents files → slice_get files k ≡ Some f → units_before (docs_of contents) k + length (units_of f.units) < 2 ^ 32
before_few contents files k f kept got =
    let docs = docs_of contents in
    let both = split 0 k docs in
    let none : 0 + k ≡ k = omega arith in
    let left = ap (λ (m : ℕ). length (units_from m (drop k docs))) none in
    (counts_more contents files k (units_before docs k) (length (units_of f.units)) f kept got refl (record { are = omega arith })).0

pub all_before : (contents : List (List ℕ)) (files : List File) → AreKept contents files → units_before (docs_of contents) (length files) ≡ length (all_units (docs_of contents))
all_before contents files kept =
    let many = files_many contents files kept in
    ap (λ (w : List (Doc ℕ)). length (all_units w)) (take_all (length files) (docs_of contents) (omega arith))

-- ---- one is looked for file by file

-- the unit with that number has number `left` among those of the file with number k and of those behind it
pub record Left (contents : List (List ℕ)) (n k left : ℕ) : Type 0 where
  pub within : left < length (units_from k (drop k (docs_of contents)))
  pub same : slice_get (all_units (docs_of contents)) n ≡ slice_get (units_from k (drop k (docs_of contents))) left

pub left_begins : (contents : List (List ℕ)) (n : ℕ) → n < length (all_units (docs_of contents)) → Left contents n 0 n
left_begins contents n lt = record { within = lt; same = refl }

get_own : (k : ℕ) (doc : Doc ℕ) (docs : List (Doc ℕ)) (left : ℕ) → left < length doc.units → slice_get (units_from k (doc ∷ docs)) left ≡ slice_get (map (in_file k) doc.units) left
unfolding units_from
get_own k doc docs left lt = let long = length-map doc.units (in_file k) in get_front (map (in_file k) doc.units) (units_from (suc k) docs) left (omega arith)

get_later : (k : ℕ) (doc : Doc ℕ) (docs : List (Doc ℕ)) (left : ℕ) → length doc.units ≤ left → slice_get (units_from k (doc ∷ docs)) left ≡ slice_get (units_from (suc k) docs) (left - length doc.units)
unfolding units_from
get_later k doc docs left le =
    let own = map (in_file k) doc.units in
    let long = length-map doc.units (in_file k) in
    let at : left ≡ length own + (left - length doc.units) = omega arith in
    ap (slice_get (own ++ units_from (suc k) docs)) at ∙ get_behind own (units_from (suc k) docs) (left - length doc.units)

pub left_here : (contents : List (List ℕ)) (files : List File) (n k left many : ℕ) (f : File) → AreKept contents files → slice_get files k ≡ Some f → many ≡ length (units_of f.units) → left < many
    → Left contents n k left → HasUnit contents n k left
left_here contents files n k left many f kept got is lt h =
    let o = file_of contents files k f kept got in
    let same = many_units o.limits o.bytes (units_of f.units) o.read.doc o.read.means in
    let docs = docs_of contents in
    record {
      doc = o.read.doc;
      there = o.doc_is;
      within = omega arith;
      same = h.same ∙ ap (λ (w : List (Doc ℕ)). slice_get (units_from k w) left) (drop_here docs k o.read.doc o.doc_is) ∙ get_own k o.read.doc (drop (k + 1) docs) left (omega arith);
    }

pub left_more : (contents : List (List ℕ)) (files : List File) (n k left many : ℕ) (f : File) → AreKept contents files → slice_get files k ≡ Some f → many ≡ length (units_of f.units) → many ≤ left
    → Left contents n k left → Left contents n (k + 1) (left - many)
left_more contents files n k left many f kept got is le h =
    let o = file_of contents files k f kept got in
    let same = many_units o.limits o.bytes (units_of f.units) o.read.doc o.read.means in
    let docs = docs_of contents in
    let doc = o.read.doc in
    let here = ap (λ (w : List (Doc ℕ)). length (units_from k w)) (drop_here docs k doc o.doc_is) in
    let long = more_from k doc (drop (k + 1) docs) in
    let one : suc k ≡ k + 1 = omega arith in
    let next = ap (λ (m : ℕ). length (units_from m (drop (k + 1) docs))) one in
    let within = h.within in
    let count : left - length doc.units ≡ left - many = omega arith in
    record {
      within = omega arith;
      same = h.same ∙ ap (λ (w : List (Doc ℕ)). slice_get (units_from k w) left) (drop_here docs k doc o.doc_is)
          ∙ get_later k doc (drop (k + 1) docs) left (omega arith)
          ∙ (λ i. slice_get (units_from (one i) (drop (k + 1) docs)) (count i));
    }

pub left_none : (contents : List (List ℕ)) (files : List File) (n k left : ℕ) → AreKept contents files → length files ≤ k → Left contents n k left → ⊥
left_none contents files n k left kept le h =
    let many = files_many contents files kept in
    let none = ap (λ (w : List (Doc ℕ)). length (units_from k w)) (drop_all k (docs_of contents) (omega arith)) in
    let zero_left = none_from k in
    let within = h.within in
    omega arith
