-- Laws on planned files and the numbers of their units.
use Rattle.std.specs.Prelude.{◌≡◌, ℕ, ◌+◌, ◌<◌, ◌^◌, Bool, List, length}
use Rattle.dwz_def_tops.specs.Spots.{units_of}
use Rattle.dwz_groups.specs.declared.tops.Tops.{Tops}
use Rattle.dwz_graph.specs.declared.file.File.{File}
use Rattle.dwz_graph.specs.Files.{AreKept, docs_of}
use Rattle.dwz_graph.specs.Index.{Index}
use Rattle.dwz_graph.specs.Indexed.{AreIndexes}
use Rattle.dwz_plan.specs.declared.plan.Scope.{Scope}
use Rattle.dwz_plan.specs.Planned.{Planned}
use Rattle.dwz_layout_input.specs.declared.planned.PlannedFiles.{PlannedFiles}
use Rattle.dwz_layout_input.specs.Fits.{FitsFiles}
use Rattle.dwz_layout_numbers.specs.declared.numbers.UnitNumbers.{UnitNumbers}
use Rattle.dwz_graph.specs.EntryCounts.{entry_count}
use Rattle.dwz_law_layout.specs.Beside.{Alone}
use Rattle.dwz_law_layout.specs.Facts.{AreFacts, RunFacts, written}
use Rattle.dwz_layout_order.specs.declared.orders.Settled.{Settled as Lent}
use Rattle.dwz_law_layout.specs.Settled.{IsSettled}
use Rattle.dwz_layout_input.specs.declared.settled.SettledFiles.{SettledFiles}
use Rattle.dwz_layout_input.specs.Settled.{AreFactsOf, ArePlanned, AreStored, Lends}
use Rattle.dwz_run_files.specs.Numbered.{AreNumbersOf}

-- ---- there are few

-- the units of files that are kept, and the partial units of a plan that fits them, have numbers of 32 bits
abbrev pub RoomLaw : Type 0
RoomLaw =
    (contents : List (List ℕ)) (files : List File) (sharing : Scope) (tops : Tops) (plan : Planned) → AreKept contents files
    → FitsFiles sharing (docs_of contents) tops plan → length plan.partials + length (units_of (docs_of contents)) < 2 ^ 32

-- so have their entries
abbrev pub EntriesLaw : Type 0
EntriesLaw =
    (contents : List (List ℕ)) (files : List File) (indexes : List Index) → AreKept contents files → AreIndexes (docs_of contents) indexes
    → entry_count indexes < 2 ^ 32

-- ---- flags

-- Of planned files there is a flag for each. The flags are those of the facts of these files: they say which files are written.
pub record HasFlags (contents : List (List ℕ)) (indexes : List Index) (sharing : Scope) (p : PlannedFiles) (r : SettledFiles)
    : Type 0 where
  pub many : length r.written.items ≡ length contents
  pub are : (f : RunFacts Alone) → AreFactsOf contents indexes sharing p f → r.written.items ≡ written f

-- what is settled of planned files, and lent, has them
abbrev pub FlagsLaw : Type 0
FlagsLaw =
    (contents : List (List ℕ)) (files : List File) (indexes : List Index) (sharing : Scope) (p : PlannedFiles) (r : SettledFiles)
    (s : Lent)
    → AreKept contents files → Lends r s → ((f : RunFacts Alone) (t : Lent) → AreFactsOf contents indexes sharing p f → Lends r t → IsSettled f t)
    → HasFlags contents indexes sharing p r

-- ---- facts

-- the facts have these numbers of units
pub record HasNumbers (f : RunFacts Alone) (n : UnitNumbers) : Type 0 where
  pub commons : f.commons ≡ n.commons
  pub parts : f.parts ≡ n.parts.items
  pub olds : f.olds ≡ n.olds.items

-- facts of stored files and their plan are facts, with the numbers of their units by the flags of the files that are written
abbrev pub PlannedFactsLaw : Type 0
PlannedFactsLaw =
    (contents : List (List ℕ)) (indexes : List Index) (sharing : Scope) (p : PlannedFiles) (f : RunFacts Alone)
    → ArePlanned sharing (docs_of contents) p → AreFactsOf contents indexes sharing p f → AreStored f
    → (flags : List Bool) (n : UnitNumbers) → flags ≡ written f → AreNumbersOf (docs_of contents) p.plan flags n → HasNumbers f n
    → AreFacts f

-- so are those of what is settled, with the numbers by its plan and its flags
abbrev pub SettledFactsLaw : Type 0
SettledFactsLaw =
    (contents : List (List ℕ)) (indexes : List Index) (sharing : Scope) (p : PlannedFiles) (r : SettledFiles) (f : RunFacts Alone)
    → ArePlanned sharing (docs_of contents) p → r.planned ≡ p → HasFlags contents indexes sharing p r
    → AreFactsOf contents indexes sharing p f → AreStored f
    → (n : UnitNumbers) → AreNumbersOf (docs_of contents) r.planned.plan r.written.items n → HasNumbers f n → AreFacts f
