-- What is written of files, by their contents: the run of those that read, and where nothing refuses it. Which tops are looked at together
-- and the name of the common file are given.
use Rattle.std.specs.Prelude.{◌≡◌, ◌↔◌, ℕ, Bool, true, false, List, [], ◌∷◌, get_or, Option, Some, None, Ok, Err, if◌then◌else◌}
use Rattle.dwz_model.specs.declared.fault.Refusal.{Refusal}
use Rattle.dwz_def_reading.specs.Units.{RawUnit}
use Rattle.dwz_def_reading.specs.Documents.{Doc}
use Rattle.dwz_def_reading.specs.Files.{Limits, ReadAll, file_meaning, limits_after, no_files_before}
use Rattle.dwz_def_tops.specs.Alike.{Apart, TopScope, Together}
use Rattle.dwz_def_tops.specs.Deciding.{alike_test}
use Rattle.dwz_def_tops.specs.Spots.{units_of}
use Rattle.dwz_def_images.specs.Gain.{gain_rule}
use Rattle.dwz_def_images.specs.Homes.{Rule}
use Rattle.dwz_def_readback.specs.Back.{run_of}
use Rattle.dwz_def_readback.specs.Files.{CommonFile, Made, Run, Stored}
use Rattle.dwz_def_readback.specs.Prunable.{IsPrunable}
use Rattle.dwz_def_output.specs.FilesAfter.{common_bytes, has_common}
use Rattle.dwz_def_output.specs.Refusals.{OutFaultBy}

-- ---- files that read

-- the units of files as they are stored, as far as the files read
unfoldable pub raws : Limits → List (List ℕ) → List (List RawUnit)
raws l [] = []
raws l (bytes ∷ files) = elim (file_meaning l bytes) as (λ _. List (List RawUnit)) [
  | Ok x ↦ x.0 ∷ raws
      (limits_after l bytes x.0) files
  | Err f ↦ []
]

-- contents as they are stored, with a flag for each file: whether it is prunable
abbrev pub stored_behind : Limits → List (List ℕ) → List Bool → Stored
stored_behind l contents prunes = record {
  bytes = λ file. get_or contents file [];
  raw = λ file. get_or (raws l contents) file [];
  prunes = λ file. get_or prunes file false;
}

abbrev pub stored_of : List (List ℕ) → List Bool → Stored
stored_of = stored_behind no_files_before

abbrev pub ArePrunable : List (List ℕ) → List (Doc ℕ) → List Bool → Type 0
ArePrunable [] [] [] = Unit {0}
ArePrunable (bytes ∷ contents) (doc ∷ docs) (flag ∷ flags) = ((flag ≡ true) ↔ IsPrunable bytes doc.units) × ArePrunable contents docs flags
ArePrunable _ _ _ = ⊥

-- the contents read as these documents, and the flags say which of the files are prunable
pub record ReadAs (contents : List (List ℕ)) (docs : List (Doc ℕ)) (prunes : List Bool) : Type 0 where
  pub reads : ReadAll no_files_before contents docs
  pub prunable : ArePrunable contents docs prunes

-- ---- the run

-- alike tops move whose groups gain
abbrev pub rule_under : TopScope → List (Doc ℕ) → Rule
rule_under scope docs = gain_rule (alike_test scope (units_of docs)) (units_of docs)

-- the run of files that say these documents
abbrev pub run_under : TopScope → List (List ℕ) → List (Doc ℕ) → List Bool → Run
run_under scope contents docs prunes = run_of (rule_under scope docs) docs (stored_of contents prunes)

-- the common file, where all files are one scope and there is one
abbrev pub common_under : TopScope → Run → Option (List ℕ)
common_under Apart r = None
common_under Together r = if has_common r then Some (common_bytes r) else None

-- nothing refuses what is written of a run, with that name of the common file
abbrev pub IsFreeBy : CommonFile → List ℕ → Run → Type 0
IsFreeBy k name r = (q : Refusal) → ¬ OutFaultBy k name r q

abbrev pub IsFree : List ℕ → Run → Type 0
IsFree = IsFreeBy Made

-- the contents read so, and nothing refuses what is written of them
pub record CanBeWritten (scope : TopScope) (name : List ℕ) (contents : List (List ℕ)) (docs : List (Doc ℕ)) (prunes : List Bool) : Type 0
  where
    pub read : ReadAs contents docs prunes
    pub free : IsFree name (run_under scope contents docs prunes)
