-- What a plan of rows shows of a move.
use Rattle.std.specs.Prelude.{◌≡◌, ℕ, ◌<◌, true, false, List, [], ◌++◌, Some, length, map, ◌==◌, ◌&&◌, not, slice_get, slice_index}
use Rattle.std.specs.Prelude.{slice_index_or}
use Rattle.std.specs.List.{filter, range_with_len}
use Rattle.dwz_def_reading.specs.Lists.{In}
use Rattle.dwz_def_tops.specs.Spots.{EntryName, FileUnit, Top, tops_of}
use Rattle.dwz_def_plan.specs.Homes.{Common, Home, Local, Rule}
use Rattle.dwz_def_plan.specs.Moves.{Move, plan}
use Rattle.dwz_def_plan.specs.Plan.{PartialUnit, imports as unit_imports, is_pinned}
use Rattle.dwz_plan.specs.declared.plan.Home.{Home as Place}
use Rattle.dwz_plan.specs.declared.plan.Home.TheVariants.{Common as InCommon, Local as InFile, Stay as InUnit}
use Rattle.dwz_plan.specs.Planned.{Planned}
use Rattle.dwz_plan.specs.Shows.{ShowsPlan, import_row, shown_part}

-- ---- what a unit keeps

-- the tops of a unit that don't leave it
unfoldable pub staying_in : Move → List (FileUnit EntryName) → ℕ → List Top
staying_in m units unit = filter (λ t. t.unit == unit && not (m.gone t.number)) (tops_of units)

-- pinned ones first, both in order
unfoldable pub kept_in : Move → List (FileUnit EntryName) → ℕ → List Top
kept_in m units unit =
    filter (λ t. is_pinned units t.number) (staying_in m units unit) ++ filter (λ t. not (is_pinned units t.number)) (staying_in m units unit)

-- ---- where tops go

-- the partial unit of that number has this home, and holds the top of that number
pub record HoldsAt (parts : List PartialUnit) (n : ℕ) (h : Home) (top : ℕ) : Type 0 where
  pub part : PartialUnit
  pub there : slice_get parts n ≡ Some part
  pub home : part.home ≡ h
  pub holds : In top (map (λ t. t.number) part.tops)

-- The top leaves its unit for a partial unit that holds what stands for it; or it stays.
abbrev pub IsPlaceIn : Move → ℕ → Place → Type 0
IsPlaceIn m n (InCommon p) = (m.gone n ≡ true) × HoldsAt m.parts p Common (m.stand n)
IsPlaceIn m n (InFile p) = (file : ℕ) × (m.gone n ≡ true) × HoldsAt m.parts p (Local file) (m.stand n)
IsPlaceIn m n InUnit = m.gone n ≡ false

-- ---- a plan of rows shows a move of the tops of units

pub record ShowsMove (m : Move) (units : List (FileUnit EntryName)) (files : ℕ) (plan : Planned) : Type 0 where
  pub partials : map (shown_part files) m.parts ≡ plan.partials
  pub homes : (t : Top) → In t (tops_of units) → IsPlaceIn m t.number (slice_index_or plan.homes t.number InUnit)
  pub stand_ins : (t : Top) → In t (tops_of units) → slice_index plan.stand_ins t.number ≡ m.stand t.number
  pub kept : (unit : ℕ) → unit < length units → slice_index_or plan.kept unit [] ≡ map (λ t. t.number) (kept_in m units unit)
  pub imports : (unit : ℕ) → unit < length units → unit_imports unit 0 m.parts ≡ import_row unit (slice_index_or plan.imports unit [])

-- what shows the plan by a rule shows the move that it is
abbrev pub MoveLaw : Type 0
MoveLaw =
    (rule : Rule) (units : List (FileUnit EntryName)) (files : ℕ) (planned : Planned) → ShowsPlan rule units files planned
    → ShowsMove (plan rule units (range_with_len 0 files)) units files planned
