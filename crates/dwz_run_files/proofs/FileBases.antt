-- What a unit's own scope says of bases is what its root says by its number among the units of all files: names change nothing of it.
use Rattle.std.proofs.Common.{◌≡◌, ℕ, ◌+◌, List, Some, slice_get, sym, ◌∙◌, arith}
use Rattle.dwz_def_reading.specs.Units.{RawUnit}
use Rattle.dwz_def_reading.specs.Documents.{unit_map}
use Rattle.dwz_def_reading.specs.Files.{around_of}
use Rattle.dwz_def_reading.specs.Meanings.{scope_of}
use Rattle.dwz_def_tops.specs.Spots.{EntryName, FileUnit, in_file}
use Rattle.dwz_def_encoding.specs.Bases.{bases_of}
use Rattle.dwz_def_encoding.proofs.ScopeIs.{own_bases}
use Rattle.dwz_def_readback.specs.Files.{bases_at}
use Rattle.dwz_def_readback.proofs.OriginLemmas.{bases_found, bases_mapped}
use Rattle.dwz_unit.specs.Rows.{units_of as raw_units}
use Rattle.dwz_graph.specs.declared.file.File.{File}
use Rattle.dwz_graph.specs.Index.{Index}
use Rattle.dwz_graph.specs.Across.{file_units, name_at}
use Rattle.dwz_graph.proofs.FileEntries.{unit_of}
use Rattle.dwz_graph.proofs.ListGets.{part_get}
use Rattle.dwz_law_layout.specs.Beside.{Beside}
use Rattle.dwz_law_layout.specs.Facts.{AreFacts, HasFile, RunFacts, units}
use Rattle.dwz_law_layout.proofs.FilesFound.{among_of, nth_at}

pub unit_bases : {beside : Beside} (f : RunFacts beside) → AreFacts f → (n : ℕ) (bytes : List ℕ) (x : File) (index : Index) → HasFile f n bytes x index
    → (j : ℕ) (u : RawUnit) → slice_get (raw_units x.units) j ≡ Some u
    → bases_at (units f) (index.starts.unit + j) ≡ bases_of (scope_of (around_of bytes (raw_units x.units)) u)
unit_bases f facts n bytes x index h j u is =
    let among = among_of f facts n bytes x index h in
    let doc = among.kept.read.doc in
    let w = unit_of f.contents n bytes x index among j u is in
    let name : ℕ → EntryName = name_at index.starts doc in
    let found : FileUnit EntryName = in_file n (unit_map name w.v) in
    let at : slice_get (units f) (index.starts.unit + j) ≡ Some found =
    part_get (units f) (file_units index.starts n doc) index.starts.unit j found among.units w.named_is in
    let same : index.starts.unit + j ≡ 0 + (index.starts.unit + j) = omega arith in
    bases_found (units f) 0 (index.starts.unit + j) (index.starts.unit + j) found (nth_at (units f) (index.starts.unit + j) found at) same
    ∙ bases_mapped name w.v
    ∙ sym (own_bases (around_of bytes (raw_units x.units)) u w.v w.means)
