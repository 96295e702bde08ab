-- That the new file reads.
use Rattle.std.specs.Prelude.{◌≤◌, List}
use Rattle.dwz_model.specs.declared.fault.Refusal.{Refusal}
use Rattle.dwz_def_reading.specs.ElfHeaders.{file_header}
use Rattle.dwz_def_reading.specs.Units.{RawUnit}
use Rattle.dwz_def_expand.specs.OneFile.{OneFile, ReadsOne}
use Rattle.dwz_def_expand.specs.NewFile.{NewRefusal, expanded_bytes}
use Rattle.dwz_def_expand.specs.After.{ReadsFreely, units_after}
use Rattle.dwz_law_expand.specs.Told.{IsOfBytes}

-- where nothing refuses a file that reads, what is written of it reads by itself, and says the new units
abbrev pub NewFileReadsLaw : Type 0
NewFileReadsLaw =
    (f : OneFile) → IsOfBytes f → ReadsOne f → (file_header f.file.bytes).headers ≤ 65278 → ((q : Refusal) → ¬ NewRefusal f q)
    → (raw : List RawUnit) × ReadsFreely (expanded_bytes f) raw (units_after f)
