-- Laws on the plan of rows.
use Rattle.std.specs.Prelude.{◌≡◌, ℕ, List, length}
use Rattle.std.specs.List.{range_with_len}
use Rattle.dwz_def_reading.specs.Documents.{Doc}
use Rattle.dwz_def_tops.specs.Deciding.{Test}
use Rattle.dwz_def_tops.specs.Spots.{EntryName, FileUnit, file_numbers}
use Rattle.dwz_def_plan.specs.Gain.{gain_rule}
use Rattle.dwz_groups.specs.declared.tops.Tops.{Tops}
use Rattle.dwz_plan.specs.declared.plan.Scope.{Scope}
use Rattle.dwz_plan.specs.Gained.{IsPlanOf, IsWhole}
use Rattle.dwz_plan.specs.Planned.{Planned}
use Rattle.dwz_plan.specs.Rows.{Given, given}
use Rattle.dwz_plan.specs.Shows.{HaveLeast, ShowsPlan, ShowsTops}

-- where rows show tops, and least numbers decide which are alike, the plan is that of the units by gain
abbrev pub PlanLaw : Type 0
PlanLaw =
    (units : List (FileUnit EntryName)) (alike : Test) (scope : Scope) (tops : Tops) (least : List ℕ) (plan : Planned)
    → ShowsTops units tops
    → HaveLeast scope tops least alike
    → IsPlanOf (given scope tops least) plan → ShowsPlan (gain_rule alike units) units tops.files plan

-- there is just one plan
abbrev pub OneLaw : Type 0
OneLaw = (g : Given) (plan other : Planned) → IsPlanOf g plan → IsPlanOf g other → plan ≡ other

abbrev pub WholeLaw : Type 0
WholeLaw = (g : Given) (plan : Planned) → IsPlanOf g plan → IsWhole g plan

-- each top has a row
abbrev pub RowsLaw : Type 0
RowsLaw = (scope : Scope) (tops : Tops) (least : List ℕ) → length least ≡ length tops.rows → length (given scope tops least).rows
    ≡ length tops.rows

-- files of documents are numbered as here
abbrev pub FilesLaw : Type 0
FilesLaw = (docs : List (Doc ℕ)) → file_numbers 0 docs ≡ range_with_len 0 (length docs)
