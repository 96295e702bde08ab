-- Rows that show the tops of units in their groups, and what gains there.
use Rattle.std.specs.Prelude.{◌≡◌, ◌↔◌, ◌⊎◌, ℕ, ◌≤◌, ◌==◌, ◌&&◌, true, List, [], Option, Some, None, filter, length, slice_get}
use Rattle.std.specs.Prelude.{slice_index_or}
use Rattle.dwz_def_reading.specs.Lists.{In}
use Rattle.dwz_def_tops.specs.Alike.{refers_to}
use Rattle.dwz_def_tops.specs.Deciding.{Test}
use Rattle.dwz_def_tops.specs.Spots.{EntryName, FileUnit, Top, tops_of}
use Rattle.dwz_def_plan.specs.Gain.{in_group, top_weight}
use Rattle.dwz_def_plan.specs.Homes.{Stay, candidate, is_home, rep, users}
use Rattle.dwz_def_plan.specs.Plan.{PartialUnit}
use Rattle.dwz_plan.specs.Gaining.{group_at, weight_at}

-- the number of the group with the top's home and users; none where it has no home
abbrev pub IsGroup : Test → List (FileUnit EntryName) → List PartialUnit → Option ℕ → ℕ → Type 0
IsGroup alike units groups None n = candidate alike units n ≡ Stay
IsGroup alike units groups (Some g) n = (part : PartialUnit) × (slice_get groups g ≡ Some part) × (candidate alike units n ≡ part.home)
    × (users alike units n ≡ part.users)

-- a group has a home and just the representatives with that home and its users
pub record HoldsGroup (alike : Test) (units : List (FileUnit EntryName)) (part : PartialUnit) : Type 0 where
  pub home : is_home part.home ≡ true
  pub tops : part.tops ≡ filter (λ t. in_group alike units part.home part.users t && rep alike units t.number == t.number) (tops_of units)
  pub some : (t : Top) × In t (tops_of units) × (candidate alike units t.number ≡ part.home) × (users alike units t.number ≡ part.users)

-- these are groups, each once
pub record AreApart (alike : Test) (units : List (FileUnit EntryName)) (groups : List PartialUnit) : Type 0 where
  pub each : (g : ℕ) (part : PartialUnit) → slice_get groups g ≡ Some part → HoldsGroup alike units part
  pub once : (g h : ℕ) (part other : PartialUnit) → slice_get groups g ≡ Some part → slice_get groups h ≡ Some other
      → part.home ≡ other.home → part.users ≡ other.users → g ≡ h

-- and the group of each top
pub record AreGroups (alike : Test) (units : List (FileUnit EntryName)) (groups : List PartialUnit) (of_tops : List (Option ℕ)) : Type 0
  where
    pub apart : AreApart alike units groups
    pub len : length of_tops ≡ length (tops_of units)
    pub of_top : (t : Top) → In t (tops_of units) → IsGroup alike units groups (group_at of_tops t.number) t.number

-- the weight itself; or, where it is 64 or more, some number that is so too
abbrev pub IsWeight : ℕ → ℕ → Type 0
IsWeight weight exact = (weight ≡ exact) ⊎ ((64 ≤ weight) × (64 ≤ exact))

-- of each top the weight, and of one that goes to a home if it moves the tops that it refers into
pub record ShowGains (alike : Test) (units : List (FileUnit EntryName)) (ws : List ℕ) (refs : List (List ℕ)) : Type 0 where
  pub len : length refs ≡ length (tops_of units)
  pub weights : (t : Top) → In t (tops_of units) → IsWeight (weight_at ws t.number) (top_weight t)
  pub targets : (t : Top) → In t (tops_of units) → is_home (candidate alike units t.number) ≡ true → (n : ℕ)
      → In n (slice_index_or refs t.number []) ↔ (refers_to n t ≡ true)
