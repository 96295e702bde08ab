-- What gains among rows is what gains among the tops of units.
use Rattle.std.specs.Prelude.{◌≡◌, ◌↔◌, ℕ, Bool, true, List, Option, Some, length, map, slice_get}
use Rattle.std.specs.List.{filter}
use Rattle.dwz_def_tops.specs.Deciding.{Test}
use Rattle.dwz_def_tops.specs.Spots.{EntryName, FileUnit, tops_of}
use Rattle.dwz_def_plan.specs.Gain.{gain_rule, gain_test}
use Rattle.dwz_def_plan.specs.Homes.{all_rule}
use Rattle.dwz_def_tops.specs.Lists.{Rising}
use Rattle.dwz_def_plan.specs.IsPlan.{numbers}
use Rattle.dwz_def_plan.specs.Plan.{PartialUnit, partials}
use Rattle.dwz_groups.specs.Groups.{grouped}
use Rattle.dwz_plan.specs.Gaining.{edges_from, gains_alone, weight_of}
use Rattle.dwz_plan.specs.Groups.{AreApart, AreGroups, ShowGains}
use Rattle.dwz_groups.specs.Spreading.{IsMarked, IsSpread}

-- the group of a partial unit gains
abbrev pub part_gains : Test → List (FileUnit EntryName) → PartialUnit → Bool
part_gains alike units part = gain_test alike units (length (tops_of units)) part.home part.users

-- for each group whether it gains by itself, from the weights of its representatives
abbrev pub seed : List ℕ → PartialUnit → Bool
seed ws part = gains_alone (length part.users) (weight_of ws (numbers part.tops))

-- a group is marked exactly if it gains
abbrev pub MarkedLaw : Type 0
MarkedLaw =
    (units : List (FileUnit EntryName)) (alike : Test) (groups : List PartialUnit) (of_tops : List (Option ℕ)) (weights : List ℕ)
    (targets : List (List ℕ)) (marks : List Bool)
    → AreGroups alike units groups of_tops → ShowGains alike units weights targets
    → IsSpread (grouped (length groups) (edges_from of_tops of_tops targets)) (map (seed weights) groups) marks
    → (g : ℕ) (part : PartialUnit) → slice_get groups g ≡ Some part → IsMarked marks g ↔ (part_gains alike units part ≡ true)

-- the partial units of all tops with a home are groups
abbrev pub GroupsLaw : Type 0
GroupsLaw = (units : List (FileUnit EntryName)) (alike : Test) (files : List ℕ) → Rising files
    → AreApart alike units (partials (all_rule alike) units files)

-- the partial units of what gains are those that gain among the partial units of all tops with a home
abbrev pub PartsLaw : Type 0
PartsLaw =
    (units : List (FileUnit EntryName)) (alike : Test) (files : List ℕ) → partials (gain_rule alike units) units files
    ≡ filter (part_gains alike units) (partials (all_rule alike) units files)
