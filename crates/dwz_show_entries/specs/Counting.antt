-- How many units and entries a file has.
use Rattle.std.specs.Prelude.{◌≡◌, ℕ, List, length, Ok}
use Rattle.dwz_def_reading.specs.Units.{RawUnit, entries_in}
use Rattle.dwz_def_reading.specs.Documents.{Doc}
use Rattle.dwz_def_reading.specs.Files.{file_meaning, no_files_before}
use Rattle.dwz_show_entries.specs.declared.walk.Counts.{Counts}

-- the file reads as a document, and there are so many of its units, and of their entries
pub record AreCounted (bytes : List ℕ) (c : Counts) : Type 0 where
  pub raw : List RawUnit
  pub doc : Doc ℕ
  pub read : file_meaning no_files_before bytes ≡ Ok (raw, doc)
  pub units : c.units ≡ length raw
  pub entries : c.entries ≡ entries_in raw
