-- Files that are kept are stored as they were read: each file that has a number says its units, behind those before it.
use Rattle.std.proofs.Common.{◌≡◌, ℕ, zero, suc, List, [], ◌∷◌, get_or, Result, Ok, Err, sym, ap, ◌∙◌, arith}
use Rattle.dwz_model.specs.declared.fault.Fault.{Fault}
use Rattle.dwz_def_reading.specs.Units.{RawUnit}
use Rattle.dwz_def_reading.proofs.ListFacts.{got_there}
use Rattle.dwz_def_reading.specs.Documents.{Doc}
use Rattle.dwz_def_reading.specs.Files.{Limits, ReadAll, file_meaning, limits_after, no_files_before}
use Rattle.dwz_def_reading.proofs.FileLemmas.{files_agree}
use Rattle.dwz_def_readback.specs.Files.{Stored}
use Rattle.dwz_def_output.specs.Written.{ReadAs, raws}
use Rattle.dwz_def_output.proofs.FilesRead.{are_read}
use Rattle.dwz_graph.specs.declared.file.File.{File}
use Rattle.dwz_graph.specs.Files.{AreKept, HasFile as StandsThere, docs_of}
use Rattle.dwz_graph.proofs.GraphLemmas as graph
use Rattle.dwz_graph.proofs.GraphLemmas.{files_read}
use Rattle.dwz_unit.specs.Rows.{units_of as raw_units}
use Rattle.dwz_graph.proofs.FileCounts.{are_many, files_many}
use Rattle.dwz_graph.proofs.FileWalk.{is_among}
use Rattle.dwz_run_files.specs.Stored.{FileLaw, ManyLaw, ReadLaw, StoredLaw}

-- ---- what files say

-- files that are kept read as their documents
pub all_read : (contents : List (List ℕ)) (files : List File) → AreKept contents files → ReadAll no_files_before contents (docs_of contents)
all_read contents files kept =
    ((files_agree no_files_before 0 contents).ok (docs_of contents)).0 (files_read contents files kept.end kept.are)

pub read_so : ReadLaw
read_so contents files flags are kept prunable =
    let all : ReadAs contents (docs_of contents) flags = record { reads = all_read contents files kept; prunable = prunable } in
    (all, are_read contents (docs_of contents) flags all are)

-- ---- what is stored of a file

-- the units of the first file, and then those of the others
pub raws_step : (l : Limits) (bytes : List ℕ) (contents : List (List ℕ)) (units : List RawUnit) (doc : Doc ℕ)
    → file_meaning l bytes ≡ Ok (units, doc) → raws l (bytes ∷ contents) ≡ units ∷ raws (limits_after l bytes units) contents
unfolding raws
raws_step l bytes contents units doc e =
    ap (λ (m : Result (List RawUnit × Doc ℕ) Fault). elim m as (λ _. List (List RawUnit)) [
      | Ok x ↦ x.0 ∷ raws (limits_after l bytes x.0) contents
      | Err f ↦ []
    ]) e

-- the file that stands there behind some others has these bytes and these units
stored_at : (l : Limits) (contents : List (List ℕ)) (i : ℕ) (m : Limits) (b : List ℕ) (raw : List RawUnit) (doc : Doc ℕ)
    → StandsThere l contents i m b raw doc → (get_or contents i [] ≡ b) × (get_or (raws l contents) i [] ≡ raw)
stored_at l [] i m b raw doc h = absurd h
stored_at l (bytes ∷ contents) zero m b raw doc h =
    (h.1, ap (λ (w : List (List RawUnit)). get_or w 0 []) (raws_step l bytes contents raw doc h.2))
stored_at l (bytes ∷ contents) (suc i) m b raw doc h =
    let r = stored_at (limits_after l bytes h.0) contents i m b raw doc h.3 in
    (r.0, ap (λ (w : List (List RawUnit)). get_or w (suc i) []) (raws_step l bytes contents h.0 h.1 h.2) ∙ r.1)

pub are_stored : StoredLaw
are_stored beside f flags kept input number bytes x index h =
    let r = stored_at no_files_before f.contents number h.read.limits bytes (raw_units x.units) h.read.read.doc h.read.there in
    (ap (λ (s : Stored). s.bytes number) input ∙ r.0, ap (λ (s : Stored). s.raw number) input ∙ r.1)

-- ---- how many there are

pub as_many : ManyLaw
as_many contents files kept =
    let same = graph.as_many no_files_before 0 contents files kept.end kept.are in
    (sym (files_many contents files kept) ∙ same, same)

-- ---- a file by its number

pub file_at : FileLaw
file_at beside f kept indexed n less =
    let m = are_many f.contents f.files f.indexes kept indexed in
    let files = m.0 in
    let indexes = m.1 in
    let contents = m.2 in
    let x = got_there f.files n (omega arith) in
    let index = got_there f.indexes n (omega arith) in
    let a = is_among f.contents f.files f.indexes n x.0 index.0 kept indexed x.1 index.1 in
    record { bytes = a.bytes; x = x.0; index = index.0; has = record { file = x.1; index_is = index.1; read = a.is.kept } }
