-- What comes of options that ask to write many files over a finished common file, each as if it were alone with it.
use Rattle.std.specs.Prelude.{◌≡◌, ◌⊎◌, ℕ, suc, ◌+◌, ◌<◌, ◌≤◌, Bool, true, false, List, [], ◌∷◌, length, map, take, get_or, None, Result, Ok, Err}
use Rattle.std.specs.List.{flat_map, list_any, sum_by, zip}
use Rattle.dwz_def_reading.specs.Fault.{Fault}
use Rattle.dwz_def_reading.specs.Reason.TheVariants.{FileSize}
use Rattle.dwz_def_reading.specs.Refusal.{Refusal}
use Rattle.dwz_def_reading.specs.Documents.{Doc}
use Rattle.dwz_def_reading.specs.ElfFaults.{file_fault}
use Rattle.dwz_def_reading.specs.Files.{IsFaultBy, ReadsBy, longest_files, no_files_before}
use Rattle.dwz_def_reading.specs.Finished.{refusal_of, rule_of_common}
use Rattle.dwz_def_reading.specs.Places.{Place}
use Rattle.dwz_def_reading.specs.Units.{RawUnit}
use Rattle.dwz_outside.specs.declared.puts.Put.{Put}
use Rattle.dwz_report.specs.Texts.{refusal_text}
use Rattle.dwz_words.specs.declared.options.Options.{Options}
use Rattle.dwz_run_course.specs.declared.output.TextPart.{TextPart}
use Rattle.dwz_run_course.specs.Ends.{done_text}
use Rattle.dwz_run_course.specs.Outcome.{Outcome, refuses, writes}
use Rattle.dwz_def_run.specs.Reuses.{Reuses, common_got}

-- ---- the files

-- a FILE, and what was got of it
pub record FileGot : Type 0 where
  pub name : List ℕ
  pub content : List ℕ

-- those with these names, of contents of which the first has that number
unfoldable pub got_from : ℕ → List (List ℕ) → List (List ℕ) → List FileGot
got_from n [] contents = []
got_from n (name ∷ names) contents = record { name = name; content = get_or contents n [] } ∷ got_from (suc n) names contents

-- The FILEs, of contents that are in the order in which files are got: the common file comes first. Behind the file with which there are too
-- many bytes nothing is got: those count as empty.
abbrev pub all_got : Options → List (List ℕ) → List FileGot
all_got o contents = got_from 1 o.files contents

-- ---- what comes of each

-- The options that ask to write one FILE alone over that common file, with the same name of it. They aren't quiet: what is then left out is
-- said where all is said.
abbrev pub options_alone : Options → List ℕ → Options
options_alone o name = record o { quiet = false; out = None; files = name ∷ []; demo = None }

-- what comes of them
abbrev pub Alone : Options → List ℕ → FileGot → Outcome → Type 0
Alone o common file = Reuses (options_alone o file.name) (common ∷ file.content ∷ [])

-- these come of the files, each alone
abbrev pub AreOutcomes : Options → List ℕ → List FileGot → List Outcome → Type 0
AreOutcomes o common [] [] = Unit {0}
AreOutcomes o common (file ∷ files) (outcome ∷ outcomes) = Alone o common file outcome × AreOutcomes o common files outcomes
AreOutcomes o common _ _ = ⊥

-- ---- what comes of all

-- what is put, in order; what is said, in parts; and whether some file is refused
pub record Batch : Type 0 where
  pub puts : List Put
  pub parts : List TextPart
  pub partly : Bool

-- the puts of one file; none where it is refused
abbrev pub puts_of : Outcome → List Put
puts_of (writes out) = out.puts
puts_of (refuses q) = []

-- what is said of it: what a run of it alone says, which sums it up; or its refusal
abbrev pub part_of : Options → List ℕ → Outcome → TextPart
part_of o name (writes out) = record { text = done_text (options_alone o name) out; is_summary = true }
part_of o name (refuses q) = record { text = refusal_text name q; is_summary = false }

abbrev pub is_refused : Outcome → Bool
is_refused (writes out) = false
is_refused (refuses q) = true

-- file by file, in order
abbrev pub batch_of : Options → List FileGot → List Outcome → Batch
batch_of o files outcomes = record {
  puts = flat_map puts_of outcomes;
  parts = map (λ row. part_of o row.0.name row.1) (zip files outcomes);
  partly = list_any is_refused outcomes;
}

-- ---- what refuses all

-- the common file reads, with the number behind those of the files
abbrev pub IsCommonRead : Options → List ℕ → Type 0
IsCommonRead o common =
    (units : List RawUnit) × (doc : Doc Place) × ReadsBy (rule_of_common (length o.files)) no_files_before common units doc

-- or this is its first fault
abbrev pub IsCommonRefused : Options → List ℕ → Refusal → Type 0
IsCommonRefused o common q =
    (f : Fault) × IsFaultBy (rule_of_common (length o.files)) no_files_before common f × (q ≡ refusal_of (length o.files) f)

-- how many bytes these have together
abbrev pub bytes_together : List ℕ → List FileGot → ℕ
bytes_together common files = length common + sum_by (λ file. length file.content) files

-- with the file of that number, and not before it, they are more than all files may have
pub record IsPast (common : List ℕ) (files : List FileGot) (number : ℕ) : Type 0 where
  pub before : bytes_together common (take number files) ≤ longest_files
  pub past : longest_files < bytes_together common (take (suc number) files)

-- ---- what comes of options and contents

-- The common file reads, there aren't too many bytes together, and all comes of what comes of each file alone. Or the first fault of the common
-- file refuses all; or else, where there are too many bytes, the first file with which there are. What is wrong with one file alone, be it its
-- own length, refuses that file, and not all.
abbrev pub BatchesOf : Options → List ℕ → List FileGot → Result Batch Refusal → Type 0
BatchesOf o common files (Ok all) =
    IsCommonRead o common × (bytes_together common files ≤ longest_files)
    × ((outcomes : List Outcome) × AreOutcomes o common files outcomes × (all ≡ batch_of o files outcomes))
BatchesOf o common files (Err q) =
    IsCommonRefused o common q
    ⊎ (IsCommonRead o common × ((number : ℕ) × IsPast common files number × (q ≡ refusal_of number (file_fault FileSize 0))))

abbrev pub Batches : Options → List (List ℕ) → Result Batch Refusal → Type 0
Batches o contents = BatchesOf o (common_got contents) (all_got o contents)
