-- One file after the other.
use Rattle.std.proofs.Common.{◌≡◌, ℕ, ◌+◌, ◌<◌, ◌≤◌, ◌^◌, Bool, true, false, List, Some, length, get_or, slice_get, sym, ap, subst, ◌∙◌, arith}
use Rattle.std.specs.Prelude.{replicate}
use Rattle.std.specs.List.{list_any}
use Rattle.dwz_def_reading.proofs.ListFacts.{item_got}
use Rattle.dwz_def_tops.specs.Spots.{EntryName, FileUnit, units_of}
use Rattle.dwz_graph.specs.declared.file.File.{File}
use Rattle.dwz_graph.specs.Files.{AreKept, docs_of}
use Rattle.dwz_graph.specs.declared.index.Starts.{Starts}
use Rattle.dwz_graph.specs.Index.{Index}
use Rattle.dwz_graph.specs.Indexed.{AreIndexes}
use Rattle.dwz_graph.proofs.IndexRoom.{many_units}
use Rattle.dwz_move.specs.Marked.{MarksIf}
use Rattle.dwz_unit.specs.Rows.{units_of as raw_units}
use Rattle.dwz_graph.specs.Across.{IsFileAmong, file_units, starts_at}
use Rattle.dwz_graph.specs.AcrossLaws.{IsAmong}
use Rattle.dwz_graph.proofs.FileCounts.{all_ends, are_many, starts_are}
use Rattle.dwz_graph.proofs.FileEntries.{all_entries, few_entries}
use Rattle.dwz_graph.proofs.FileWalk.{is_among}
use Rattle.dwz_graph.proofs.TopRows.{units_long}
use Rattle.dwz_move_files.proofs.MarkSteps.{MarkedBy, files_first, files_last, files_next, starts_zero}
use Rattle.dwz_move_files.specs.Named.{AreFlags}
use Rattle.dwz_def_reading.specs.Documents.{Doc}

pub below : (contents : List (List ℕ)) (files : List File) (indexes : List Index) (k : ℕ) → AreKept contents files → AreIndexes (docs_of contents) indexes → k < length files → k < length indexes
below contents files indexes k kept is lt = (let many = are_many contents files indexes kept is in omega arith)

pub files_begin : (docs : List (Doc ℕ)) (indexes : List Index) (test : ℕ → FileUnit EntryName → Bool) (marks : List Bool) → marks ≡ replicate (starts_at docs indexes (length indexes)).top false
    → MarkedBy (units_of docs) test (starts_at docs indexes (length indexes)).top (starts_at docs indexes 0).unit marks
files_begin docs indexes test marks e =
    let units = units_of docs in
    let count = (starts_at docs indexes (length indexes)).top in
    subst (λ (s : Starts). MarkedBy units test count s.unit marks) (sym (starts_zero docs indexes)) (files_first units test count marks e)

pub files_all : (contents : List (List ℕ)) (files : List File) (indexes : List Index) (k : ℕ) → AreKept contents files → AreIndexes (docs_of contents) indexes → length files ≤ k → k ≤ length files
    → (test : ℕ → FileUnit EntryName → Bool) (marks : List Bool)
    → MarkedBy (units_of (docs_of contents)) test (starts_at (docs_of contents) indexes (length indexes)).top (starts_at (docs_of contents) indexes k).unit marks
    → AreFlags (units_of (docs_of contents)) (λ n. list_any (test n) (units_of (docs_of contents))) marks
files_all contents files indexes k kept is high low test marks h =
    let many = are_many contents files indexes kept is in
    let e : k ≡ length indexes = omega arith in
    let ends = all_ends contents indexes is in
    let docs = docs_of contents in
    files_last (units_of docs) test (starts_at docs indexes (length indexes)).top (starts_at docs indexes k).unit marks (ap (λ (n : ℕ). (starts_at docs indexes n).unit) e ∙ ends.0) ends.1 h

module _ (contents : List (List ℕ)) (files : List File) (indexes : List Index) (k : ℕ) (f : File) (x : Index) (kept : AreKept contents files) (is : AreIndexes (docs_of contents) indexes)
    (lt : k < length files) (fe : f ≡ get_or files k f) (xe : x ≡ get_or indexes k x) where
  of_file : slice_get files k ≡ Some f
  of_file = item_got files k f lt fe

  of_index : slice_get indexes k ≡ Some x
  of_index = item_got indexes k x (below contents files indexes k kept is lt) xe

  pub known : IsAmong contents k f x
  known = is_among contents files indexes k f x kept is of_file of_index

  pub few : length x.steps < 2 ^ 32
  few = (let r = known in let a = all_entries contents k r.bytes f x r.is in let b = few_entries contents k r.bytes f x r.is in omega arith)

  pub marked : (test : ℕ → FileUnit EntryName → Bool) (count : ℕ) (old new : List Bool) → MarkedBy (units_of (docs_of contents)) test count (starts_at (docs_of contents) indexes k).unit old
      → ((contents : List (List ℕ)) (k : ℕ) (bytes : List ℕ) (is : IsFileAmong contents k bytes f x) → MarksIf (λ t. list_any (test t) (file_units x.starts k is.kept.read.doc) ≡ true) old new)
      → MarkedBy (units_of (docs_of contents)) test count (starts_at (docs_of contents) indexes (k + 1)).unit new
  marked test count old new h one =
      let r = known in
      let doc = r.is.kept.read.doc in
      let starts = starts_are contents files indexes k f x kept is of_file of_index in
      let begins = ap (λ (s : Starts). s.unit) starts.0 in
      let long = units_long x.starts k doc in
      let many = many_units r.is.kept.limits r.bytes (raw_units f.units) doc r.is.kept.read.means in
      let behind = ap (λ (n : ℕ). x.starts.unit + n) (long ∙ sym many) ∙ ap (λ (s : Starts). s.unit) starts.1 in
      let units = units_of (docs_of contents) in
      let own = file_units x.starts k doc in
      subst (λ (n : ℕ). MarkedBy units test count n new) behind
      (files_next units own test count x.starts.unit old new r.is.units (subst (λ (n : ℕ). MarkedBy units test count n old) (sym begins) h) (one contents k r.bytes r.is))
