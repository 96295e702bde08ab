-- What files that were read give.
use Rattle.std.specs.Prelude.{◌≡◌, ℕ, ◌<◌, ◌^◌, List, length}
use Rattle.dwz_def_reading.specs.Documents.{Doc}
use Rattle.dwz_def_tops.specs.Spots.{tops_of, units_of}
use Rattle.dwz_def_taken.specs.Beside.{reused_of, together}
use Rattle.dwz_check_index.specs.Index.{CrossIndex}
use Rattle.dwz_graph.specs.declared.file.File.{File}
use Rattle.dwz_graph.specs.Files.{AreKept, docs_of}
use Rattle.dwz_graph.specs.Index.{Index}
use Rattle.dwz_graph.specs.Indexed.{AreIndexes}
use Rattle.dwz_layout_numbers.specs.declared.numbers.UnitNumbers.{UnitNumbers}
use Rattle.dwz_graph.specs.EntryCounts.{tops_from}
use Rattle.dwz_plan.specs.Planned.{Planned}
use Rattle.dwz_law_layout.specs.Beside.{Beside}
use Rattle.dwz_law_layout.specs.Facts.{AreFacts, RunFacts}
use Rattle.dwz_layout_input.specs.Needs.{AreMade, IsFit}
use Rattle.dwz_layout_input.specs.Over.{IsBehind, IsFitOver}

-- fewer than 2 ^ 32 files that are kept, with their indexes and a plan that has an answer for each top, fit
abbrev pub FitLaw : Type 0
FitLaw =
    (contents : List (List ℕ)) (files : List File) (indexes : List Index) (plan : Planned)
    → AreKept contents files → AreIndexes (docs_of contents) indexes
    → length contents < 2 ^ 32 → length plan.homes ≡ length (tops_of (units_of (docs_of contents)))
    → length plan.stand_ins ≡ length (tops_of (units_of (docs_of contents))) → IsFit files indexes plan (length (tops_from 0 indexes))

-- so do they with a common file behind them
abbrev pub FitOverLaw : Type 0
FitOverLaw =
    (contents : List (List ℕ)) (files : List File) (indexes : List Index) (plan : Planned) (common : Doc ℕ) (x : CrossIndex)
    → AreKept contents files → AreIndexes (docs_of contents) indexes → length contents < 2 ^ 32 → IsBehind (docs_of contents) common x
    → length plan.homes ≡ length (tops_of (together (reused_of (docs_of contents) common)))
    → length plan.stand_ins ≡ length (tops_of (together (reused_of (docs_of contents) common))) → IsFitOver files indexes plan x

-- what is known of files that were read is of them, and of the numbers of their units
abbrev pub MadeLaw : Type 0
MadeLaw =
    (beside : Beside) (f : RunFacts beside) (numbers : UnitNumbers) → AreFacts f
    → f.parts ≡ numbers.parts.items → f.olds ≡ numbers.olds.items → f.commons ≡ numbers.commons
    → AreMade f f.files f.indexes f.planned numbers
