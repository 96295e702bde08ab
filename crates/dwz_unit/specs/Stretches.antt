-- Units in stretches: those of each are read as if they were the first of a file.
use Rattle.std.specs.Prelude.{◌≡◌, ℕ, ◌+◌, ◌≤◌, List, ◌++◌, Ok, drop, length}
use Rattle.dwz_bytes.specs.Input.{input}
use Rattle.dwz_def_reading.specs.Units.{RawUnit, SpellsUnits, units_at}
use Rattle.dwz_unit.specs.Kept.{known_in, source_of}
use Rattle.dwz_unit.specs.Known.{known_entries}
use Rattle.dwz_unit.specs.Modes.{mode_view}
use Rattle.dwz_unit.specs.Rows.{Source, shown_units, units_of}
use Rattle.dwz_unit.specs.Tables.{Stored}
use Rattle.dwz_unit.specs.declared.mode.Mode.{Mode}
use Rattle.dwz_unit.specs.declared.rows.RawUnit.{RawUnit as UnitOfCode}
use Rattle.dwz_unit.specs.declared.rows.Row.{Row}
use Rattle.dwz_unit.specs.declared.stretches.Stretch.{Stretch}

-- from one place of the section up to another stand units, which were kept as if no others were before them
pub record AreRead (info : List ℕ) (mode : Mode) (s : Stored) (first end : ℕ) (kept : List UnitOfCode) (rows : List Row) : Type 0 where
  pub units : List RawUnit
  pub bytes : List ℕ
  pub place : end ≡ first + length bytes
  pub parts : drop first info ≡ bytes ++ drop end info
  pub within : end ≤ length info
  pub spelled : SpellsUnits s.section (mode_view mode) 0 units first bytes
  pub shown : kept ≡ shown_units units
  pub entries : known_in s rows ≡ known_entries units
  pub few : length rows ≤ mode.room

-- the same of a stretch
abbrev pub IsStretch : List ℕ → Mode → Stored → Stretch → Type 0
IsStretch info mode s x = AreRead info mode s x.first x.end x.units.items x.entries.items

-- of one that has all units
pub record IsWhole (info : List ℕ) (mode : Mode) (s : Stored) (x : Stretch) : Type 0 where
  pub stretch : IsStretch info mode s x
  pub first : x.first ≡ 0
  pub end : x.end ≡ length info

-- all units were read
pub record IsReadWhole (info abbrevs : List ℕ) (mode : Mode) (source : Source) : Type 0 where
  pub same : source ≡ source_of info abbrevs mode
  pub answers : units_at abbrevs (mode_view mode) 0 (input info 0) ≡ Ok (units_of source)

-- a unit behind so many entries
abbrev pub later_unit : ℕ → UnitOfCode → UnitOfCode
later_unit entries u = record u { first = entries + u.first }

-- the row of an entry behind so many units and entries
abbrev pub later_row : ℕ → ℕ → Row → Row
later_row units entries r = record r { unit = units + r.unit; end = entries + r.end }
