-- Files that were read: what they say, how they are stored, and what refuses those that don't read.
use Rattle.std.specs.Prelude.{◌≡◌, ℕ, ◌<◌, ◌≤◌, Bool, List, length, Err}
use Rattle.dwz_model.specs.declared.fault.Refusal.{Refusal}
use Rattle.dwz_def_reading.specs.Values.{AreBytes}
use Rattle.dwz_def_reading.specs.Files.{First, files_meaning, no_files_before}
use Rattle.dwz_def_reading.specs.Lists.{Each}
use Rattle.dwz_def_readback.specs.AllFiles.{AreRead}
use Rattle.dwz_def_output.specs.Written.{ArePrunable, ReadAs, stored_of}
use Rattle.dwz_graph.specs.declared.file.File.{File}
use Rattle.dwz_graph.specs.Files.{AreKept, docs_of}
use Rattle.dwz_graph.specs.Indexed.{AreIndexes}
use Rattle.dwz_law_layout.specs.Beside.{Beside}
use Rattle.dwz_law_layout.specs.Facts.{IsStoredSo, RunFacts, docs}
use Rattle.dwz_law_layout.specs.Trees.{IsReadFile}

-- Files that are kept, with a flag for each that says whether it is prunable, read as their documents; and as they are stored each of them
-- reads as its own.
abbrev pub ReadLaw : Type 0
ReadLaw =
    (contents : List (List ℕ)) (files : List File) (flags : List Bool) → Each AreBytes contents → AreKept contents files
    → ArePrunable contents (docs_of contents) flags
    → ReadAs contents (docs_of contents) flags × AreRead (stored_of contents flags) (docs_of contents)

-- what is stored of each file is what was read of it
abbrev pub StoredLaw : Type 0
StoredLaw =
    (beside : Beside) (f : RunFacts beside) (flags : List Bool) → AreKept f.contents f.files → f.input ≡ stored_of f.contents flags → IsStoredSo f

-- What refuses files is their first fault. It is placed in the file itself, whose code is 0, or in a section, whose code is 9 at most.
abbrev pub RefusedLaw : Type 0
RefusedLaw =
    (contents : List (List ℕ)) (r : Refusal) → files_meaning no_files_before 0 contents ≡ Err r
    → First no_files_before 0 contents r × (r.section ≤ 9)

-- there are as many documents, and as many files that are kept, as contents
abbrev pub ManyLaw : Type 0
ManyLaw =
    (contents : List (List ℕ)) (files : List File) → AreKept contents files
    → (length (docs_of contents) ≡ length contents) × (length files ≡ length contents)

-- each number less than how many contents there are is that of a file that was read, with its index
abbrev pub FileLaw : Type 0
FileLaw =
    (beside : Beside) (f : RunFacts beside) → AreKept f.contents f.files → AreIndexes (docs f) f.indexes → (n : ℕ) → n < length f.contents → IsReadFile f n
