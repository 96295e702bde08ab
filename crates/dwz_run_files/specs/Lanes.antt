-- What is new in every so many files.
use Rattle.std.specs.Prelude.{ℕ, suc, ◌+◌, ◌<◌, ◌≤◌, List, [], ◌∷◌, length, Option}
use Rattle.dwz_def_readback.specs.Files.{CommonFile, Run}
use Rattle.dwz_def_output.specs.declared.new_file.NewFile.{NewFile}
use Rattle.dwz_def_output.specs.NewFiles.{IsNewOrOldBy}

-- this is new in the file with that number, and in every so many files behind it, to the end
abbrev pub AreEvery : CommonFile → Run → ℕ → ℕ → List (Option NewFile) → Type 0
AreEvery k r step number [] = length r.files ≤ number
AreEvery k r step number (new ∷ made) =
    (number < length r.files) × IsNewOrOldBy k r number new × AreEvery k r step (number + step) made

-- so is the first lane from the file with that number on, the next from the file behind on, and so forth
abbrev pub AreLanes : CommonFile → Run → ℕ → ℕ → List (List (Option NewFile)) → Type 0
AreLanes k r step number [] = Unit {0}
AreLanes k r step number (lane ∷ lanes) = AreEvery k r step number lane × AreLanes k r step (suc number) lanes
