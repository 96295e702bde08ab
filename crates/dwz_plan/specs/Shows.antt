-- Rows that show the tops of units, and what their plan then shows of the units' plan.
use Rattle.std.specs.Prelude.{◌≡◌, ◌↔◌, ℕ, ◌<◌, Bool, true, false, All, List, [], ◌∷◌, Some, length, map, slice_get, slice_index}
use Rattle.std.specs.Prelude.{slice_index_or}
use Rattle.std.specs.List.{range_with_len}
use Rattle.dwz_def_reading.specs.Documents.{Entries}
use Rattle.dwz_def_reading.specs.Lists.{In}
use Rattle.dwz_def_reading.specs.Trees.{End, Entry}
use Rattle.dwz_groups.specs.declared.tops.TopRow.{TopRow}
use Rattle.dwz_groups.specs.declared.tops.Tops.{Tops}
use Rattle.dwz_def_tops.specs.Alike.{refers_to}
use Rattle.dwz_def_tops.specs.Deciding.{Test}
use Rattle.dwz_def_plan.specs.Gain.{top_weight}
use Rattle.dwz_def_plan.specs.Homes.{Common, Home, Local, Rule, Stay, home, rep, users}
use Rattle.dwz_def_plan.specs.Plan.{PartialUnit, import_of, imports as unit_imports, is_pinned, kept as unit_kept, partials as unit_partials}
use Rattle.dwz_def_plan.specs.Plan.{stand_in}
use Rattle.dwz_def_tops.specs.Spots.{EntryName, FileUnit, Top, tops_of}
use Rattle.dwz_plan.specs.declared.plan.Home.{Home as Place}
use Rattle.dwz_plan.specs.declared.plan.Home.TheVariants.{Common as InCommon, Local as InFile, Stay as InUnit}
use Rattle.dwz_plan.specs.declared.plan.Partial.{Partial}
use Rattle.dwz_plan.specs.declared.plan.Scope.{Scope}
use Rattle.dwz_plan.specs.declared.plan.Scope.TheVariants.{Together, Each}
use Rattle.dwz_plan.specs.Gaining.{weight_at, weights_of}
use Rattle.dwz_plan.specs.Groups.{IsWeight}
use Rattle.dwz_plan.specs.Planned.{Planned, file_of_home}
use Rattle.dwz_plan.specs.Rows.{TopFacts, given}

-- ---- the rows show the tops

pub record ShowsTop (units : List (FileUnit EntryName)) (row : TopRow) (t : Top) : Type 0 where
  pub unit : row.unit ≡ t.unit
  pub pinned : row.pinned ≡ is_pinned units t.number

-- one row for each top, in order
abbrev pub ShowsRows : List (FileUnit EntryName) → List TopRow → List Top → Type 0
ShowsRows units [] [] = Unit {0}
ShowsRows units (row ∷ rows) (t ∷ tops) = ShowsTop units row t × ShowsRows units rows tops
ShowsRows units _ _ = ⊥

-- the row of that number says that its top may move
abbrev pub may_move : List TopRow → ℕ → Bool
may_move rows n = slice_index_or (map (λ row. row.movable) rows) n false

-- Of whether a top may move nothing is said here: that is in what decides which are alike. Weights and targets are shown by the tops'
-- numbers; of a top that may not move, by its row, any targets do.
pub record ShowsTops (units : List (FileUnit EntryName)) (tops : Tops) : Type 0 where
  pub rows : ShowsRows units tops.rows (tops_of units)
  pub weights : (t : Top) → In t (tops_of units) → IsWeight (weight_at (weights_of tops.rows) t.number) (top_weight t)
  pub len : length tops.targets ≡ length (tops_of units)
  pub targets : (t : Top) → In t (tops_of units) → may_move tops.rows t.number ≡ true → (n : ℕ)
      → In n (slice_index_or tops.targets t.number []) ↔ (refers_to n t ≡ true)
  pub files_of_units : tops.files_of_units ≡ map (λ f. f.file) units
  pub files : All (λ file. file < tops.files) tops.files_of_units

-- ---- the least numbers decide which tops are alike

abbrev pub InOneScope : Scope → TopFacts → TopFacts → Type 0
InOneScope Together a b = Unit {0}
InOneScope Each a b = a.file ≡ b.file

-- both may move, in one scope, and their least alike tops are one
pub record Joins (scope : Scope) (a b : TopFacts) : Type 0 where
  pub first : a.movable ≡ true
  pub second : b.movable ≡ true
  pub scoped : InOneScope scope a b
  pub least : a.least ≡ b.least

-- there is one least number for each row, and two tops are alike exactly if their rows join
pub record HaveLeast (scope : Scope) (tops : Tops) (least : List ℕ) (alike : Test) : Type 0 where
  pub len : length least ≡ length tops.rows
  pub decides : (a b : TopFacts) → In a (given scope tops least).rows → In b (given scope tops least).rows
      → (alike a.number b.number ≡ true) ↔ Joins scope a b

-- ---- what the plan shows

-- a partial unit with numbers for its home and its tops
abbrev pub shown_part : ℕ → PartialUnit → Partial
shown_part files part = record { file = file_of_home files part.home; users = part.users; tops = map (λ t. t.number) part.tops }

-- the partial unit of that number has this home and these users, and holds the top of that number
pub record PartAt (parts : List PartialUnit) (n : ℕ) (h : Home) (us : List ℕ) (top : ℕ) : Type 0 where
  pub part : PartialUnit
  pub there : slice_get parts n ≡ Some part
  pub home : part.home ≡ h
  pub users : part.users ≡ us
  pub holds : In top (map (λ t. t.number) part.tops)

-- The top goes to its home, into the partial unit with its users, which holds the top that stands for it; or it stays.
abbrev pub IsPlace : Rule → List (FileUnit EntryName) → List PartialUnit → ℕ → Place → Type 0
IsPlace rule units parts n (InCommon p) = (home rule units n ≡ Common) × PartAt parts p Common (users rule.alike units n)
    (rep rule.alike units n)
IsPlace rule units parts n (InFile p) = (file : ℕ) × (home rule units n ≡ Local file)
    × PartAt parts p (Local file) (users rule.alike units n) (rep rule.alike units n)
IsPlace rule units parts n InUnit = home rule units n ≡ Stay

-- imports of partial units with these numbers
unfoldable pub import_row : ℕ → List ℕ → Entries EntryName
import_row unit [] = End
import_row unit (n ∷ parts) = Entry (import_of unit n) End (import_row unit parts)

-- ---- a plan of rows shows the plan of units

pub record ShowsPlan (rule : Rule) (units : List (FileUnit EntryName)) (files : ℕ) (plan : Planned) : Type 0 where
  pub partials : map (shown_part files) (unit_partials rule units (range_with_len 0 files)) ≡ plan.partials
  pub homes : (t : Top) → In t (tops_of units) → IsPlace rule units (unit_partials rule units (range_with_len 0 files)) t.number
      (slice_index_or plan.homes t.number InUnit)
  pub stand_ins : (t : Top) → In t (tops_of units) → slice_index plan.stand_ins t.number ≡ stand_in rule units t.number
  pub kept : (unit : ℕ) → unit < length units → slice_index_or plan.kept unit [] ≡ map (λ t. t.number) (unit_kept rule units unit)
  pub imports : (unit : ℕ) → unit < length units → unit_imports unit 0 (unit_partials rule units (range_with_len 0 files))
      ≡ import_row unit (slice_index_or plan.imports unit [])
