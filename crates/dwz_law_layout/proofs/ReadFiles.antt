-- Files that were read: no two of their units and entries stand at one place, and bytes spell each of their values.
use Rattle.std.proofs.Common.{◌≡◌, ℕ, zero, suc, List, [], ◌∷◌, Some, Ok, slice_get, refl, subst}
use Rattle.dwz_def_reading.specs.Entries.{given}
use Rattle.dwz_def_reading.specs.Units.{RawUnit}
use Rattle.dwz_def_reading.specs.Values.{AreBytes}
use Rattle.dwz_def_reading.specs.Documents.{Doc}
use Rattle.dwz_def_reading.specs.Files.{Limits, Reads, debug_abbrev, debug_info, files_meaning, limits_after, no_files_before}
use Rattle.dwz_def_reading.specs.Meanings.{without_siblings}
use Rattle.dwz_def_reading.proofs.FileLemmas.{file_agrees}
use Rattle.dwz_def_reading.specs.Lists.{Each}
use Rattle.dwz_def_encoding.specs.Carried.{IsStored}
use Rattle.dwz_def_encoding.proofs.ReadAgain.{section_bytes}
use Rattle.dwz_def_images.specs.After.{ArePlaced}
use Rattle.dwz_def_readback.proofs.ReadPlaces.{read_from}
use Rattle.dwz_unit.specs.Rows.{EntryRow, rows_of, units_of}
use Rattle.dwz_graph.specs.declared.file.File.{File}
use Rattle.dwz_graph.specs.Files.{AreKept, AreRead, HasFile, HasRead, docs_of}
use Rattle.dwz_graph.proofs.GraphLemmas.{files_read}
use Rattle.dwz_graph.proofs.FileWalk.{first_doc}
use Rattle.dwz_law_layout.proofs.RowsStored.{rows_stored}
use Rattle.dwz_law_layout.specs.Beside.{Beside}
use Rattle.dwz_law_layout.specs.Facts.{AreFacts, RunFacts, docs}

-- ---- bytes

file_bytes : (l : Limits) (contents : List (List ℕ)) (i : ℕ) (m : Limits) (b : List ℕ) (raw : List RawUnit) (doc : Doc ℕ) → HasFile l contents i m b raw doc → Each AreBytes contents → AreBytes b
file_bytes l [] i m b raw doc h are = absurd h
file_bytes l (x ∷ contents) zero m b raw doc h are = subst (λ (w : List ℕ). AreBytes w) h.1 are.0
file_bytes l (x ∷ contents) (suc i) m b raw doc h are = file_bytes (limits_after l x h.0) contents i m b raw doc h.3 are.1

-- ---- places

placed_from : (l : Limits) (n : ℕ) (contents : List (List ℕ)) (files : List File) (left : Limits) (said : List (Doc ℕ)) → AreRead l n contents files left
    → files_meaning l n contents ≡ Ok said → Each AreBytes contents → Each (λ doc. ArePlaced doc.units) said
unfolding files_meaning
placed_from l n [] [] left said h m are = (let same : [] ≡ said = cc in subst (λ (w : List (Doc ℕ)). Each (λ doc. ArePlaced doc.units) w) same tt)
placed_from l n [] (y ∷ files) left said h m are = absurd h
placed_from l n (b ∷ contents) [] left said h m are = absurd h
placed_from l n (b ∷ contents) (y ∷ files) left said h m are =
    let r = first_doc l n b contents y said h.0 m in
    let reads : Reads l b (units_of y.units) h.0.doc = ((file_agrees l b).ok (units_of y.units, h.0.doc)).0 h.0.means in
    let first = read_from l b (units_of y.units) h.0.doc reads (section_bytes b 1 are.0) in
    subst (λ (w : List (Doc ℕ)). Each (λ doc. ArePlaced doc.units) w) r.2
    (first.placed, placed_from (limits_after l b (units_of y.units)) (suc n) contents files left r.0 h.1 r.1 are.1)

pub files_placed : (contents : List (List ℕ)) (files : List File) → AreKept contents files → Each AreBytes contents → Each (λ doc. ArePlaced doc.units) (docs_of contents)
files_placed contents files kept bytes =
    placed_from no_files_before 0 contents files kept.end (docs_of contents) kept.are (files_read contents files kept.end kept.are) bytes

pub all_placed : {beside : Beside} (f : RunFacts beside) → AreFacts f → Each (λ doc. ArePlaced doc.units) (docs f)
all_placed f facts = files_placed f.contents f.files facts.kept facts.bytes

-- ---- values

pub all_stored : {beside : Beside} (f : RunFacts beside) → AreFacts f → (n : ℕ) (bytes : List ℕ) (x : File) → HasRead f.contents n bytes x
    → (i : ℕ) (r : EntryRow) → slice_get (rows_of (units_of x.units)) i ≡ Some r → Each IsStored (without_siblings r.entry.attrs)
all_stored f facts n bytes x h i r found =
    let reads : Reads h.limits bytes (units_of x.units) h.read.doc = ((file_agrees h.limits bytes).ok (units_of x.units, h.read.doc)).0 h.read.means in
    rows_stored (debug_abbrev bytes) (debug_info bytes) (given h.limits.entries) (units_of x.units) refl reads.spelled
    (section_bytes bytes 1 (file_bytes no_files_before f.contents n h.limits bytes (units_of x.units) h.read.doc h.there facts.bytes)) i r found
