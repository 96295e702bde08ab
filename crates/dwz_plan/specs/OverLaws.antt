-- Rows that show the tops of files and, behind them, those of a finished common file, and what their plan then shows.
use Rattle.std.specs.Prelude.{◌≡◌, ℕ, List, ◌++◌, length, map, slice_index, slice_index_or}
use Rattle.std.specs.List.{range_with_len}
use Rattle.dwz_def_reading.specs.Lists.{In}
use Rattle.dwz_def_tops.specs.Alike.{Apart}
use Rattle.dwz_def_tops.specs.Deciding.{alike_test}
use Rattle.dwz_def_tops.specs.Spots.{Top, tops_from, tops_of}
use Rattle.dwz_def_plan.specs.Moves.{Move}
use Rattle.dwz_def_taken.specs.declared.fixed.Fixed.{Fixed}
use Rattle.dwz_def_taken.specs.Beside.{Reused, own_tops, together}
use Rattle.dwz_def_taken.specs.Laws.{IsReused}
use Rattle.dwz_def_taken.specs.Over.{move_over}
use Rattle.dwz_def_taken.specs.Takes.{IsFixed}
use Rattle.dwz_groups.specs.declared.tops.TopRow.{TopRow}
use Rattle.dwz_groups.specs.declared.tops.Tops.{Tops}
use Rattle.dwz_plan.specs.declared.plan.Home.TheVariants.{Stay as InUnit}
use Rattle.dwz_plan.specs.declared.plan.Scope.TheVariants.{Each}
use Rattle.dwz_plan.specs.Over.{IsPlanOver}
use Rattle.dwz_plan.specs.Planned.{Planned}
use Rattle.dwz_plan.specs.Shows.{HaveLeast, ShowsTops}
use Rattle.dwz_plan.specs.ShowsMove.{ShowsMove}

-- the tops of the common file, counted behind those of the files
abbrev pub common_tops : Reused → List Top
common_tops r = tops_from (length r.units) (own_tops r) r.commons

-- The first rows show the tops of the files, and their least numbers decide which of these are alike in one file. Behind them is a row
-- for each top of the common file, of which only the unit is asked; its units are the last ones.
pub record ShowsOver (r : Reused) (fixed : Fixed) (tops : Tops) (least : List ℕ) : Type 0 where
  pub own : Tops
  pub own_least : List ℕ
  pub shows : ShowsTops r.units own
  pub decides : HaveLeast Each own own_least (alike_test Apart r.units)
  pub files : tops.files ≡ own.files
  pub rows_behind : List TopRow
  pub rows : tops.rows ≡ own.rows ++ rows_behind
  pub units_behind : map (λ row. row.unit) rows_behind ≡ map (λ t. t.unit) (common_tops r)
  pub least_behind : List ℕ
  pub least_is : least ≡ own_least ++ least_behind
  pub targets_behind : List (List ℕ)
  pub targets : tops.targets ≡ own.targets ++ targets_behind
  pub files_behind : List ℕ
  pub files_of_units : tops.files_of_units ≡ own.files_of_units ++ files_behind
  pub many_behind : length files_behind ≡ length r.commons
  pub roots : length fixed.roots ≡ length r.commons

-- The plan shows the move over the common file. Its tops stay, each for itself: so what stands for it is shown of every top.
pub record ShowsAllOver (r : Reused) (m : Move) (files : ℕ) (plan : Planned) : Type 0 where
  pub own : ShowsMove m r.units files plan
  pub stand_ins : (t : Top) → In t (tops_of (together r)) → slice_index plan.stand_ins t.number ≡ m.stand t.number
  pub homes : (t : Top) → In t (common_tops r) → slice_index_or plan.homes t.number InUnit ≡ InUnit

abbrev pub OverLaw : Type 0
OverLaw =
    (r : Reused) (fixed : Fixed) (tops : Tops) (least : List ℕ) (plan : Planned) → IsReused r → IsFixed r fixed
    → ShowsOver r fixed tops least → IsPlanOver tops least fixed plan
    → ShowsAllOver r (move_over r fixed (range_with_len 0 tops.files)) tops.files plan

-- it has an answer for each row and each unit
pub record IsWholeOver (tops : Tops) (plan : Planned) : Type 0 where
  pub homes : length plan.homes ≡ length tops.rows
  pub stand_ins : length plan.stand_ins ≡ length tops.rows
  pub kept : length plan.kept ≡ length tops.files_of_units
  pub imports : length plan.imports ≡ length tops.files_of_units

abbrev pub WholeOverLaw : Type 0
WholeOverLaw = (tops : Tops) (least : List ℕ) (fixed : Fixed) (plan : Planned) → IsPlanOver tops least fixed plan → IsWholeOver tops plan

-- there is just one such plan
abbrev pub OneOverLaw : Type 0
OneOverLaw =
    (tops : Tops) (least : List ℕ) (fixed : Fixed) (plan other : Planned) → IsPlanOver tops least fixed plan
    → IsPlanOver tops least fixed other → plan ≡ other
