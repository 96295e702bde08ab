-- Inner: what is kept of units. No public clause cites it.
use Rattle.std.specs.Prelude.{◌≡◌, ℕ, ◌+◌, ◌<◌, ◌≤◌, ◌++◌, List, length, Ok, Some, slice_get}
use Rattle.dwz_label_files.specs.declared.unit.UnitRow.{UnitRow}
use Rattle.dwz_def_reading.specs.Units.{RawUnit, entries_in}
use Rattle.dwz_graph.specs.declared.file.File.{File}
use Rattle.dwz_graph.specs.Index.{Index}
use Rattle.dwz_def_reading.specs.Documents.{DwUnit, language}
use Rattle.dwz_def_reading.specs.Meanings.{Around}
use Rattle.dwz_def_reading.specs.Meant.{unit_meaning}
use Rattle.dwz_graph.specs.Resolved.{IsHere}
use Rattle.dwz_unit.specs.Rows.{units_of as raw_units}

-- what is kept of the unit with a number
pub record IsUnitRow (raw : List RawUnit) (n : ℕ) (row : UnitRow) : Type 0 where
  pub u : RawUnit
  pub is_unit : slice_get raw n ≡ Some u
  pub here : IsHere raw u row.here
  pub number : row.here.number ≡ n
  pub within : row.here.end ≤ entries_in raw
  pub language : (around : Around ℕ) (v : DwUnit ℕ) → unit_meaning around u ≡ Ok v → row.language ≡ language v

-- that of the unit with a number stands in the list at i
pub record HasRow (raw : List RawUnit) (rows : List UnitRow) (n i : ℕ) : Type 0 where
  pub row : UnitRow
  pub got : slice_get rows i ≡ Some row
  pub is : IsUnitRow raw n row

-- those of the first `count` units of a file were appended, in order
pub record AddsRows (raw : List RawUnit) (count : ℕ) (old new : List UnitRow) : Type 0 where
  pub more : List UnitRow
  pub is : new ≡ old ++ more
  pub many : length more ≡ count
  pub each : (n : ℕ) → n < count → HasRow raw more n n

-- those of the units of the first files stand at their numbers
abbrev pub HaveRows : List File → List Index → ℕ → List UnitRow → Type 0
HaveRows files indexes count rows =
    (file : ℕ) (f : File) (x : Index) → file < count → slice_get files file ≡ Some f → slice_get indexes file ≡ Some x
    → (n : ℕ) → n < length (raw_units f.units) → HasRow (raw_units f.units) rows n (x.starts.unit + n)
