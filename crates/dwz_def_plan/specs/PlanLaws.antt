-- Inner: laws on users, representatives, homes, choices, partial units and what is kept.
use Rattle.std.specs.Prelude.{◌≡◌, ◌↔◌, ℕ, Bool, true, List}
use Rattle.dwz_def_reading.specs.Lists.{In}
use Rattle.dwz_def_tops.specs.Lists.{Rising}
use Rattle.dwz_def_tops.specs.Alike.{IsAlike, Movable, TopScope, refers_to}
use Rattle.dwz_def_tops.specs.Deciding.{Test, alike_test}
use Rattle.dwz_def_tops.specs.Spots.{EntryName, FileUnit, Row, Top, row_tops, rows_of_root, tops_of}
use Rattle.dwz_def_plan.specs.Groups.{Gains, IsGainRule}
use Rattle.dwz_def_plan.specs.Gain.{gain_rule, gains_test}
use Rattle.dwz_def_plan.specs.Homes.{IsChoice, Rule, all_rule, candidate, moves, rep, users}
use Rattle.dwz_def_plan.specs.IsPlan.{AreFilesOf, AreImports, AreUsers, IsHome, IsPlan, IsRep, MovesAlong, RowHolds, RowStays}
use Rattle.dwz_def_plan.specs.IsPlan.{ShareAll, Stays}
use Rattle.dwz_def_plan.specs.Children.{IsKeptRow, IsPartRow}
use Rattle.dwz_def_plan.specs.Moves.{plan}
use Rattle.dwz_def_plan.specs.Plan.{PartialUnit, imports, kept_row, part_row, partials, pinned_of}

-- the users of a top are the units that have an alike top in scope, in order
abbrev pub UsersLaw : Type 0
UsersLaw =
    (scope : TopScope) (units : List (FileUnit EntryName)) (alike : Test) → IsAlike scope units alike → (t : Top) → In t (tops_of units)
    → AreUsers scope units t (users alike units t.number)

-- a movable top is represented by the first alike top in scope
abbrev pub RepLaw : Type 0
RepLaw =
    (scope : TopScope) (units : List (FileUnit EntryName)) (alike : Test) → IsAlike scope units alike → (t : Top) → In t (tops_of units)
    → Movable units t.number → IsRep scope units t (rep alike units t.number)

-- where a top goes if it moves is as the files of the users ask
abbrev pub HomeLaw : Type 0
HomeLaw = (units : List (FileUnit EntryName)) (alike : Test) (n : ℕ) → IsHome units (users alike units n) (candidate alike units n)

-- all tops with a home may be chosen; and those whose groups gain, which a test decides
abbrev pub AllLaw : Type 0
AllLaw = (scope : TopScope) (units : List (FileUnit EntryName)) (alike : Test) → IsAlike scope units alike → IsChoice units (all_rule alike)

abbrev pub GainLaw : Type 0
GainLaw = (scope : TopScope) (units : List (FileUnit EntryName)) (alike : Test) → IsAlike scope units alike
    → IsChoice units (gain_rule alike units)

abbrev pub DecidedLaw : Type 0
DecidedLaw = (units : List (FileUnit EntryName)) (alike : Test) (t : Top) → In t (tops_of units)
    → (gains_test alike units t.number ≡ true) ↔ Gains alike units t.number

-- the tests of alike tops and of gain make a rule as is asked
abbrev pub GainRuleLaw : Type 0
GainRuleLaw = (scope : TopScope) (units : List (FileUnit EntryName)) → IsGainRule scope units (gain_rule (alike_test scope units) units)

-- and all rules that are as is asked have one plan, however they decide
abbrev pub OnePlanLaw : Type 0
OnePlanLaw =
    (scope : TopScope) (units : List (FileUnit EntryName)) (rule other : Rule) → IsGainRule scope units rule → IsGainRule scope units other
    → (files : List ℕ)
    → plan rule units files ≡ plan other units files

-- alike tops have the same users, one representative and one home
abbrev pub AlikeTopsLaw : Type 0
AlikeTopsLaw =
    (scope : TopScope) (units : List (FileUnit EntryName)) (rule : Rule) → IsAlike scope units rule.alike → IsChoice units rule → (m n : ℕ)
    → rule.alike m n ≡ true
    → ShareAll rule units m n

-- what a moving top refers to moves too, and has each of its users
abbrev pub TargetsLaw : Type 0
TargetsLaw =
    (scope : TopScope) (units : List (FileUnit EntryName)) (rule : Rule) → IsAlike scope units rule.alike → IsChoice units rule → (t : Top)
    → In t (tops_of units)
    → moves rule units t.number ≡ true → (m : ℕ) → refers_to m t ≡ true → MovesAlong rule units t m

-- the partial units of files by rising numbers are as they are asked for
abbrev pub PlanLaw : Type 0
PlanLaw =
    (scope : TopScope) (units : List (FileUnit EntryName)) (rule : Rule) → IsAlike scope units rule.alike → IsChoice units rule
    → (files : List ℕ)
    → Rising files
    → AreFilesOf units files → IsPlan rule units (partials rule units files)

-- the tops that are written of a unit are just its tops that stay
abbrev pub KeptLaw : Type 0
KeptLaw =
    (units : List (FileUnit EntryName)) (rule : Rule) (unit : ℕ) (t : Top) → In t (row_tops (kept_row (moves rule units) units unit))
    ↔ Stays rule units unit t

-- of a unit all spaces are kept, and what stays in each
abbrev pub KeptRowLaw : Type 0
KeptRowLaw = (gone : ℕ → Bool) (units : List (FileUnit EntryName)) (unit : ℕ)
    → RowStays gone (rows_of_root units unit) (kept_row gone units unit)

-- in the root and in each space pinned children stand first, and then the others, both in their old order: just one row is so
abbrev pub KeptOrderLaw : Type 0
KeptOrderLaw =
    (gone : ℕ → Bool) (units : List (FileUnit EntryName)) (unit : ℕ) (row : Row)
    → IsKeptRow (pinned_of units) gone (rows_of_root units unit) row
    ↔ (kept_row gone units unit ≡ row)

-- a partial unit holds its tops in spaces with their names
abbrev pub PartRowLaw : Type 0
PartRowLaw = (n : ℕ) (part : PartialUnit) → RowHolds n part.tops (part_row n part)

-- first those in no space, and then one chain of spaces for each other name list, each in order: just one row is so
abbrev pub PartOrderLaw : Type 0
PartOrderLaw = (n : ℕ) (part : PartialUnit) (row : Row) → IsPartRow n part.tops row ↔ (part_row n part ≡ row)

-- a unit imports just the partial units that have it among their users, once each and in order
abbrev pub ImportsLaw : Type 0
ImportsLaw = (unit : ℕ) (parts : List PartialUnit) → AreImports unit parts (imports unit 0 parts)
