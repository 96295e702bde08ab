-- Files that are made from those that were read.
use Rattle.std.specs.Prelude.{◌≡◌, ℕ, ◌<◌, Bool, true, false, List, [], length, get_or, Option, Some, None, Result, Ok, Err}
use Rattle.std.specs.List.{range_with_len}
use Rattle.dwz_model.specs.declared.fault.Fault.{Fault}
use Rattle.dwz_model.specs.declared.fault.GraphErr.{GraphErr}
use Rattle.dwz_model.specs.declared.fault.GraphErr.TheVariants.{NoMemory, Refused}
use Rattle.dwz_def_output.specs.Changed.{CanGiveAll}
use Rattle.dwz_def_images.specs.Units.{changes}
use Rattle.dwz_def_readback.specs.Files.{CommonFile, Run, imports_common}
use Rattle.dwz_def_output.specs.Contents.{sections_after_by}
use Rattle.dwz_def_output.specs.FilesAfter.{file_after_by, sup_of_by}
use Rattle.dwz_def_output.specs.Refusals.{FileFaultBy, InFile}
use Rattle.dwz_def_reading.specs.FirstOf.{OfFirst}
use Rattle.dwz_def_reading.specs.Supplementary.{sup_bytes}
use Rattle.dwz_def_output.specs.declared.new_file.NewFile.{NewFile}
use Rattle.dwz_def_output.specs.NewFiles.{IsNewOrOldBy}

-- ---- the common file

-- `.debug_sup` of the files that import from the common file, with that name of it; where there is none, no file does
abbrev pub IsSupOf : CommonFile → List ℕ → Run → Option (List ℕ) → Type 0
IsSupOf k name r None = (file : ℕ) → imports_common r.move r.units file ≡ false
IsSupOf k name r (Some sup) = sup ≡ sup_bytes (sup_of_by k name r)

-- ---- one file

-- a file with these bytes before: what is new in it can be given to it
pub record CanMake (k : CommonFile) (r : Run) (file : ℕ) (bytes : List ℕ) (new : Option NewFile) : Type 0 where
  pub is_new : IsNewOrOldBy k r file new
  pub before : bytes ≡ r.input.bytes file
  pub can : changes r.move r.units file ≡ true → CanGiveAll bytes (sections_after_by k r file)

-- bytes, where there are new ones
abbrev pub made_if : Bool → List ℕ → Option (List ℕ)
made_if true bytes = Some bytes
made_if false bytes = None

-- the new bytes of a file, where something of it moves, with that name of the common file
abbrev pub made_after : CommonFile → List ℕ → Run → ℕ → Option (List ℕ)
made_after k name r file = made_if (changes r.move r.units file) (file_after_by k name r file)

-- these, or the first fault of the file. Want of memory is always an answer.
abbrev pub AnswersFile : CommonFile → List ℕ → Run → ℕ → Result (Option (List ℕ)) GraphErr → Type 0
AnswersFile k name r file (Ok made) = ((f : Fault) → ¬ FileFaultBy k name r file f) × (made ≡ made_after k name r file)
AnswersFile k name r file (Err (Refused q)) = InFile (FileFaultBy k name r) file q
AnswersFile k name r file (Err NoMemory) = Unit {0}

-- ---- all files

-- so many files have no fault, and these are their new bytes
pub record AreMadeSo (k : CommonFile) (name : List ℕ) (r : Run) (count : ℕ) (files : List (Option (List ℕ))) : Type 0 where
  pub free : (file : ℕ) → file < count → (f : Fault) → ¬ FileFaultBy k name r file f
  pub len : length files ≡ count
  pub each : (file : ℕ) → file < count → get_or files file None ≡ made_after k name r file

-- the same of so many files
abbrev pub AnswersAll : {A : Type 0} → (A → List (Option (List ℕ))) → CommonFile → List ℕ → Run → ℕ → Result A GraphErr → Type 0
AnswersAll items k name r count (Ok files) = AreMadeSo k name r count (items files)
AnswersAll items k name r count (Err (Refused q)) = OfFirst (InFile (FileFaultBy k name r)) (range_with_len 0 count) q
AnswersAll items k name r count (Err NoMemory) = Unit {0}

-- the bytes of each file before, and none of others
abbrev pub AreBefore : Run → List (List ℕ) → Type 0
AreBefore r contents = (file : ℕ) → get_or contents file [] ≡ r.input.bytes file

-- the new bytes of each file, where something of it moves
abbrev pub AreBytesOf : CommonFile → List ℕ → Run → List (Option (List ℕ)) → Type 0
AreBytesOf k name r files = (file : ℕ) → get_or files file None ≡ made_after k name r file
