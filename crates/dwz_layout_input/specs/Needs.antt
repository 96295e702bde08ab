-- What files, their indexes and their plan have to be.
use Rattle.std.specs.Prelude.{◌≡◌, ℕ, ◌<◌, ◌^◌, All, List, length, Some, slice_get}
use Rattle.dwz_def_reading.specs.Units.{entries_in}
use Rattle.dwz_graph.specs.declared.file.File.{File}
use Rattle.dwz_graph.specs.Index.{Index}
use Rattle.dwz_graph.specs.Indexed.{AreIndexes}
use Rattle.dwz_layout_numbers.specs.declared.numbers.UnitNumbers.{UnitNumbers}
use Rattle.dwz_layout_numbers.specs.Images.{IsPlanned}
use Rattle.dwz_graph.specs.EntryCounts.{entry_count}
use Rattle.dwz_graph.specs.AllNames.{AreTopEntries}
use Rattle.dwz_layout_numbers.specs.Whole.{AreWhole}
use Rattle.dwz_plan.specs.Planned.{Planned}
use Rattle.dwz_unit.specs.Rows.{units_of}
use Rattle.dwz_law_layout.specs.Beside.{Beside}
use Rattle.dwz_law_layout.specs.Facts.{RunFacts, docs, every, move}

-- the index has all entries of the file, and its references name some of them
pub record FitsFile (x : File) (index : Index) : Type 0 where
  pub len : length index.steps ≡ entries_in (units_of x.units)
  pub inside : All (λ entry. entry < length index.steps) x.resolved.refs.items

-- There is an index for each file, and there are fewer than 2 ^ 32 files and entries. Tops are entries, and the plan says of each of so
-- many tops where it goes and what stands for it.
pub record IsFit (files : List File) (indexes : List Index) (plan : Planned) (count : ℕ) : Type 0 where
  pub many : length indexes ≡ length files
  pub few_files : length files < 2 ^ 32
  pub few : entry_count indexes < 2 ^ 32
  pub each : (n : ℕ) (x : File) (index : Index) → slice_get files n ≡ Some x → slice_get indexes n ≡ Some index
      → FitsFile x index
  pub tops : All (λ index. All (λ t. t.entry < length index.steps) index.tops) indexes
  pub homes : length plan.homes ≡ count
  pub stand_ins : length plan.stand_ins ≡ count

-- what is known is of these files, their indexes, their plan and the numbers of their units
pub record AreMade {beside : Beside} (f : RunFacts beside) (files : List File) (indexes : List Index) (plan : Planned) (numbers : UnitNumbers) : Type 0
  where
    pub files_are : f.files ≡ files
    pub indexes_are : f.indexes ≡ indexes
    pub plan_is : f.planned ≡ plan
    pub parts_are : f.parts ≡ numbers.parts.items
    pub olds_are : f.olds ≡ numbers.olds.items
    pub commons_are : f.commons ≡ numbers.commons
    pub indexed : AreIndexes (docs f) indexes
    pub whole : AreWhole (docs f)
    pub images : (tops : List ℕ) → AreTopEntries (every f) tops → IsPlanned (every f) (move f) plan tops
