-- Rows of the tops of files, behind which may stand rows of others, and their plan.
use Rattle.std.specs.Prelude.{◌≡◌, ◌⊎◌, ℕ, ◌<◌, ◌≤◌, List, ◌++◌, length, slice_index_or}
use Rattle.dwz_def_reading.specs.Lists.{In}
use Rattle.dwz_def_tops.specs.Spots.{EntryName, FileUnit}
use Rattle.dwz_def_images.specs.Homes.{Common, Local}
use Rattle.dwz_def_images.specs.Moves.{Move}
use Rattle.dwz_def_images.specs.Plan.{PartialUnit}
use Rattle.dwz_groups.specs.declared.tops.TopRow.{TopRow}
use Rattle.dwz_groups.specs.declared.tops.Tops.{Tops}
use Rattle.dwz_plan.specs.declared.plan.Home.TheVariants.{Stay as InUnit}
use Rattle.dwz_plan.specs.Planned.{Planned}
use Rattle.dwz_plan.specs.Shows.{ShowsTops}
use Rattle.dwz_plan.specs.ShowsMove.{ShowsMove}

-- the first rows show the tops of these units; those behind them are of other units, which stand behind too
pub record StandFirst (units : List (FileUnit EntryName)) (tops : Tops) : Type 0 where
  pub own : Tops
  pub shows : ShowsTops units own
  pub rows_behind : List TopRow
  pub rows : tops.rows ≡ own.rows ++ rows_behind
  pub files_behind : List ℕ
  pub files_of_units : tops.files_of_units ≡ own.files_of_units ++ files_behind

-- The plan shows the move of the tops of these units; those behind them stay. Each partial unit is of one of so many files or of the common
-- one, and its users are among these units.
pub record ArePlannedFirst (m : Move) (units : List (FileUnit EntryName)) (files : ℕ) (tops : Tops) (plan : Planned) : Type 0 where
  pub rows : StandFirst units tops
  pub moves : ShowsMove m units files plan
  pub stay : (n : ℕ) → length rows.own.rows ≤ n → slice_index_or plan.homes n InUnit ≡ InUnit
  pub homes : (part : PartialUnit) → In part m.parts → (part.home ≡ Common) ⊎ ((file : ℕ) × (file < files) × (part.home ≡ Local file))
  pub users : (part : PartialUnit) → In part m.parts → (u : ℕ) → In u part.users → u < length units
