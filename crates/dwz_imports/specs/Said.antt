-- What the units of a file say, and those of the common file beside which it was read.
use Rattle.std.specs.Prelude.{◌≡◌, ℕ, List, [], map, Option, Some, None, Ok}
use Rattle.dwz_def_reading.specs.Documents.{DwUnit, unit_map}
use Rattle.dwz_def_reading.specs.Meanings.{Around, Common, all_places}
use Rattle.dwz_def_reading.specs.Meant.{units_meaning}
use Rattle.dwz_def_reading.specs.Units.{RawUnit}
use Rattle.dwz_def_cross.specs.Tops.{WithCommon}
use Rattle.dwz_graph.specs.Surroundings.{behind_own}
use Rattle.dwz_unit.specs.Rows.{Source, units_of}

-- the units of the common file, as they are stored; none, where there is no such file
abbrev pub raw_beside : Option Source → List RawUnit
raw_beside None = []
raw_beside (Some units) = units_of units

-- The file says the own units, and the common file the others. Numbers stand for places: those of the file for themselves, and those of the
-- common file for numbers from 2^32 on.
pub record SaysBeside (own common : List RawUnit) (w : WithCommon ℕ) : Type 0 where
  pub around : Around ℕ
  pub place : around.place ≡ (λ n. n)
  pub all : around.all ≡ all_places own
  pub common_place : (c : Common ℕ) → around.common ≡ Some c → c.place ≡ behind_own
  pub means : units_meaning around own ≡ Ok w.own
  pub beside : Around ℕ
  pub beside_place : beside.place ≡ (λ n. n)
  pub said : List (DwUnit ℕ)
  pub common_means : units_meaning beside common ≡ Ok said
  pub common_are : w.common ≡ map (unit_map behind_own) said
