-- Files have no more units and tops than entries, and a plan no more partial units than tops. So all have small numbers.
use Rattle.std.proofs.Common.{◌≡◌, ℕ, suc, ◌+◌, ◌≤◌, ◌^◌, List, [], ◌∷◌, length, Ok, ap, ◌∙◌, arith}
use Rattle.std.proofs.lemmas.List.{length-append}
use Rattle.dwz_def_reading.specs.Documents.{Doc}
use Rattle.dwz_def_reading.specs.Files.{Limits, around_of, files_meaning, limits_after, no_files_before}
use Rattle.dwz_def_reading.proofs.FileLemmas.{file_agrees}
use Rattle.dwz_def_tops.specs.Spots.{EntryName, FileUnit, Top, named_files, tops_among, tops_from, tops_of, units_of}
use Rattle.dwz_graph.specs.declared.file.File.{File}
use Rattle.dwz_graph.specs.Files.{AreKept, AreRead, docs_of}
use Rattle.dwz_graph.specs.Index.{Index}
use Rattle.dwz_graph.specs.Indexed.{AreIndexes}
use Rattle.dwz_graph.proofs.GraphLemmas.{files_read}
use Rattle.dwz_graph.specs.declared.index.Starts.{Starts}
use Rattle.dwz_graph.proofs.IndexRoom.{many_units}
use Rattle.dwz_unit.specs.Rows.{units_of as raw_units}
use Rattle.dwz_unit.proofs.ShownLemmas.{units_few}
use Rattle.dwz_graph.specs.Across.{file_tops, file_units}
use Rattle.dwz_graph.proofs.FileRoom.{no_doc, tops_few}
use Rattle.dwz_graph.proofs.FileWalk.{first_doc}
use Rattle.dwz_graph.proofs.TopRows.{file_many, tops_behind, units_long}
use Rattle.dwz_graph.specs.Few.{entries_in_files}
use Rattle.dwz_graph.proofs.FilesFew.{all_few, all_small}
use Rattle.dwz_graph.specs.EntryCounts.{tops_from as top_numbers}
use Rattle.dwz_layout_numbers.proofs.WholeLemmas.{top_entries}
use Rattle.dwz_layout_input.proofs.Fits.{whole}
use Rattle.dwz_run_files.specs.NumberLaws.{EntriesLaw, RoomLaw}

-- these units and their tops, the first of which have these numbers, are so few
record AreFew (unit top count : ℕ) (units : List (FileUnit EntryName)) : Type 0 where
  are : length units ≤ count
  tops : length (tops_from unit top units) ≤ count

few : (l : Limits) (n unit top : ℕ) (contents : List (List ℕ)) (files : List File) (left : Limits) (docs : List (Doc ℕ))
    → AreRead l n contents files left → files_meaning l n contents ≡ Ok docs
    → AreFew unit top (entries_in_files files) (named_files n unit top docs)
unfolding entries_in_files named_files tops_from
few l n unit top contents files left [] h m = record { are = omega arith; tops = omega arith }
few l n unit top [] files left (d ∷ docs) h m = absurd (no_doc l n d docs m)
few l n unit top (b ∷ contents) [] left (d ∷ docs) h m = absurd h
few l n unit top (b ∷ contents) (y ∷ files) left (d ∷ docs) h m =
    let r = first_doc l n b contents y (d ∷ docs) h.0 m in
    let same : r.0 ≡ docs = (let both = r.2 in cc) in
    let doc_is : h.0.doc ≡ d = (let both = r.2 in cc) in
    let raw = raw_units y.units in
    let s : Starts = record { unit = unit; top = top; space = 0 } in
    let others = named_files (suc n) (unit + length d.units) (top + tops_among d.units) docs in
    let more = few (limits_after l b raw) (suc n) (unit + length d.units) (top + tops_among d.units) contents files left docs h.1
    (r.1 ∙ ap (λ (w : List (Doc ℕ)). Ok w) same) in
    let means = (((file_agrees l b).ok (raw, h.0.doc)).0 h.0.means).means in
    let count : length raw ≡ length d.units =
    many_units l b raw h.0.doc h.0.means ∙ ap (λ (w : Doc ℕ). length w.units) doc_is in
    let among : tops_among h.0.doc.units ≡ tops_among d.units = ap (λ (w : Doc ℕ). tops_among w.units) doc_is in
    let few_own = units_few raw in
    let few_tops = tops_few (around_of b raw) raw h.0.doc.units means in
    let own = units_long s n d in
    let own_tops = file_many s n d in
    let units_two = length-append (file_units s n d) others in
    let tops_two : length (tops_from unit top (named_files n unit top (d ∷ docs)))
    ≡ length (file_tops s n d) + length (tops_from (unit + length d.units) (top + tops_among d.units) others) =
    ap (λ (w : List Top). length w) (tops_behind s n d others)
    ∙ length-append (file_tops s n d) (tops_from (unit + length d.units) (top + tops_among d.units) others) in
    let rest = more.are in
    let rest_tops = more.tops in
    record { are = omega arith; tops = omega arith }

pub room : RoomLaw
room contents files sharing tops plan kept fits =
    let docs = docs_of contents in
    let r = few no_files_before 0 0 0 contents files kept.end docs kept.are (files_read contents files kept.end kept.are) in
    let units : length (units_of docs) ≤ entries_in_files files = r.are in
    let all : length (tops_of (units_of docs)) ≤ entries_in_files files = r.tops in
    let entries : entries_in_files files ≤ 2 ^ 24 = all_few contents files kept in
    let rows = fits.rows in
    let parts = fits.few_parts in
    omega arith

-- they have few tops
pub tops_room : (contents : List (List ℕ)) (files : List File) → AreKept contents files → length (tops_of (units_of (docs_of contents))) ≤ 2 ^ 24
tops_room contents files kept =
    let docs = docs_of contents in
    let r = few no_files_before 0 0 0 contents files kept.end docs kept.are (files_read contents files kept.end kept.are) in
    let all : length (tops_of (units_of docs)) ≤ entries_in_files files = r.tops in
    let entries : entries_in_files files ≤ 2 ^ 24 = all_few contents files kept in
    omega arith

-- those that are counted in their indexes are all
pub tops_counted : (contents : List (List ℕ)) (files : List File) (indexes : List Index) → AreKept contents files → AreIndexes (docs_of contents) indexes
    → (tops : List ℕ) → tops ≡ top_numbers 0 indexes
    → (length tops ≡ length (tops_of (units_of (docs_of contents)))) × (length tops ≤ 2 ^ 24)
tops_counted contents files indexes kept indexed tops is =
    let long = ap (λ (w : List ℕ). length w) is ∙ (top_entries (docs_of contents) indexes indexed (whole contents files kept)).many in
    let few_tops = tops_room contents files kept in
    (long, omega (arith, long, few_tops))

-- and few units
pub units_room : (contents : List (List ℕ)) (files : List File) → AreKept contents files → length (units_of (docs_of contents)) ≤ 2 ^ 24
units_room contents files kept =
    let docs = docs_of contents in
    let r = few no_files_before 0 0 0 contents files kept.end docs kept.are (files_read contents files kept.end kept.are) in
    let units : length (units_of docs) ≤ entries_in_files files = r.are in
    let entries : entries_in_files files ≤ 2 ^ 24 = all_few contents files kept in
    omega arith

pub entries_room : EntriesLaw
entries_room contents files indexes kept indexed = (let few = (all_small contents files indexes kept indexed).entries in omega arith)
