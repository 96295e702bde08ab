-- The plan of rows: the groups that gain move, and all else stays.
use Rattle.std.specs.Prelude.{◌≡◌, ℕ, zero, suc, ◌+◌, Bool, true, false, List, [], ◌∷◌, ◌++◌, Option, Some, None, ◌==◌, ◌&&◌, not, filter}
use Rattle.std.specs.Prelude.{length, map, slice_index_or, if◌then◌else◌}
use Rattle.dwz_groups.specs.Groups.{grouped}
use Rattle.dwz_plan.specs.Gaining.{edges_from, gains_alone, weight_of}
use Rattle.dwz_groups.specs.Spreading.{IsSpread}
use Rattle.dwz_plan.specs.declared.plan.Home.{Home as Place}
use Rattle.dwz_plan.specs.declared.plan.Home.TheVariants.{Common as InCommon, Local as InFile, Stay as InUnit}
use Rattle.dwz_plan.specs.declared.plan.Partial.{Partial}
use Rattle.dwz_plan.specs.Planned.{Planned, imports_from, numbers, partials, place, rep, units_of}
use Rattle.dwz_plan.specs.Rows.{Given, TopFacts}
use Rattle.dwz_plan.specs.Steps.{is_in_unit}

-- ---- what is marked

-- those at which there is a mark
unfoldable pub among : {X : Type 0} → List Bool → List X → List X
among [] xs = []
among (b ∷ marks) [] = []
among (true ∷ marks) (x ∷ xs) = x ∷ among marks xs
among (false ∷ marks) (x ∷ xs) = among marks xs

-- how many marks there are before that number
unfoldable pub before : List Bool → ℕ → ℕ
before [] n = 0
before (b ∷ marks) zero = 0
before (b ∷ marks) (suc n) = (if b then 1 else 0) + before marks n

abbrev pub mark_at : List Bool → ℕ → Bool
mark_at marks n = slice_index_or marks n false

-- what goes into a partial unit that isn't marked stays
unfoldable pub place_after : List Bool → Place → Place
place_after marks (InCommon n) = if mark_at marks n then InCommon (before marks n) else InUnit
place_after marks (InFile n) = if mark_at marks n then InFile (before marks n) else InUnit
place_after marks InUnit = InUnit

-- ---- the groups are the partial units of all tops with a home

abbrev pub group_of : Place → Option ℕ
group_of (InCommon n) = Some n
group_of (InFile n) = Some n
group_of InUnit = None

abbrev pub groups_of : Given → List (Option ℕ)
groups_of g = map (λ a. group_of (place g a)) g.rows

-- it gains by itself, by the weights of all tops
abbrev pub part_seed : List ℕ → Partial → Bool
part_seed ws part = gains_alone (length part.users) (weight_of ws part.tops)

-- of these partial units, where tops go there, those are marked that gain
abbrev pub AreMarks : List ℕ → List (List ℕ) → List Partial → List Place → List Bool → Type 0
AreMarks weights targets parts places marks =
    IsSpread (grouped (length parts) (edges_from (map group_of places) (map group_of places) targets)) (map (part_seed weights) parts) marks

-- the marks of the groups that gain by themselves have spread to those that they refer into
abbrev pub IsGaining : Given → List Bool → Type 0
IsGaining g marks = IsSpread (grouped (length (partials g)) (edges_from (groups_of g) (groups_of g) g.targets))
    (map (part_seed g.weights) (partials g)) marks

-- ---- the plan

abbrev pub home_after : List Bool → Given → TopFacts → Place
home_after marks g a = place_after marks (place g a)

abbrev pub stand_after : List Bool → Given → TopFacts → ℕ
stand_after marks g a = if is_in_unit (home_after marks g a) then a.number else rep g a

-- the rows of a unit that stay, by where each goes
unfoldable pub staying_by : (TopFacts → Place) → List TopFacts → ℕ → List TopFacts
staying_by h rows unit = filter (λ a. a.unit == unit && is_in_unit (h a)) rows

-- pinned ones first
unfoldable pub kept_by : (TopFacts → Place) → List TopFacts → ℕ → List ℕ
kept_by h rows unit = numbers (filter (λ a. a.pinned) (staying_by h rows unit) ++ filter (λ a. not a.pinned) (staying_by h rows unit))

abbrev pub staying_after : List Bool → Given → ℕ → List TopFacts
staying_after marks g unit = staying_by (home_after marks g) g.rows unit

abbrev pub kept_after : List Bool → Given → ℕ → List ℕ
kept_after marks g unit = kept_by (home_after marks g) g.rows unit

unfoldable pub gained : List Bool → Given → Planned
gained marks g = record {
  partials = among marks (partials g);
  homes = map (home_after marks g) g.rows;
  stand_ins = map (stand_after marks g) g.rows;
  kept = map (kept_after marks g) (units_of g);
  imports = map (λ unit. imports_from unit 0 (among marks (partials g))) (units_of g);
}

-- of the moves of all with a home these are left
pub record AreMoves (g : Given) (marks : List Bool) (parts : List Partial) (places : List Place) (stands : List ℕ) : Type 0 where
  pub gaining : IsGaining g marks
  pub partials : parts ≡ among marks (partials g)
  pub homes : places ≡ map (home_after marks g) g.rows
  pub stand_ins : stands ≡ map (stand_after marks g) g.rows

-- the marks are of what gains, and the plan is what they leave
abbrev pub IsPlanOf : Given → Planned → Type 0
IsPlanOf g plan = (marks : List Bool) × IsGaining g marks × (plan ≡ gained marks g)

-- it has an answer for each row and each unit
pub record IsWhole (g : Given) (plan : Planned) : Type 0 where
  pub homes : length plan.homes ≡ length g.rows
  pub stand_ins : length plan.stand_ins ≡ length g.rows
  pub kept : length plan.kept ≡ length g.files_of_units
  pub imports : length plan.imports ≡ length g.files_of_units
