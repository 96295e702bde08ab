-- What an index asks of a file that was read.
use Rattle.std.specs.Prelude.{◌≡◌, ℕ, ◌≤◌, ◌^◌, List, Ok}
use Rattle.dwz_def_reading.specs.Documents.{Doc}
use Rattle.dwz_def_reading.specs.Files.{Limits, file_meaning_by}
use Rattle.dwz_def_reading.specs.Meant.{units_meaning}
use Rattle.dwz_def_reading.specs.Rules.{ReadingRule}
use Rattle.dwz_def_reading.specs.Units.{RawUnit, entries_in}

-- by whichever rule a file is read, it has no more than 2^28 entries, and its document is what its units mean
abbrev pub FileReadLaw : Type 0
FileReadLaw =
    (rule : ReadingRule ℕ) (l : Limits) (bytes : List ℕ) (raw : List RawUnit) (doc : Doc ℕ) → file_meaning_by rule l bytes ≡ Ok (raw, doc)
    → (entries_in raw ≤ 2 ^ 28) × (units_meaning (rule.around bytes raw) raw ≡ Ok doc.units)
