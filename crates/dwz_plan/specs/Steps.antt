-- The steps in which a plan is made.
use Rattle.std.specs.Prelude.{ℕ, zero, suc, ◌+◌, Bool, true, false, List, [], ◌∷◌, ◌++◌, ◌==◌, ◌&&◌, not, Option, Some, None, filter, fold}
use Rattle.std.specs.Prelude.{length, map, slice_index, slice_index_or, if◌then◌else◌}
use Rattle.std.specs.List.{concat, list_any, position_or_len, range_with_len, zip}
use Rattle.dwz_groups.specs.declared.tops.TopRow.{TopRow}
use Rattle.dwz_def_plan.specs.Homes.{Common, Home, Local, Stay}
use Rattle.dwz_def_plan.specs.Plan.{distinct}
use Rattle.dwz_def_tops.specs.Spots.{same_numbers}
use Rattle.dwz_groups.specs.declared.groups.Edge.{Edge}
use Rattle.dwz_plan.specs.declared.plan.Home.{Home as Place}
use Rattle.dwz_plan.specs.declared.plan.Home.TheVariants.{Common as InCommon, Local as InFile, Stay as InUnit}
use Rattle.dwz_plan.specs.declared.plan.Partial.{Partial}
use Rattle.dwz_groups.specs.Groups.{grouped}
use Rattle.dwz_plan.specs.Planned.{file_of_home, home_of, place_at}

abbrev pub pair : ℕ → ℕ → Edge
pair key value = record { key = key; value = value }

-- under the unit of each top that can be moved, the top that stands for it
unfoldable pub unit_pairs : List TopRow → List ℕ → List Edge
unit_pairs rows reps = map (λ p. pair p.0.unit p.1) (filter (λ p. p.0.movable) (zip rows reps))

-- each number of lists as a key, with the number of its list, of which the first has that
unfoldable pub turned : ℕ → List (List ℕ) → List Edge
turned n [] = []
turned n (ns ∷ lists) = map (λ k. pair k n) ns ++ turned (n + 1) lists

-- the keys below n under which a value stands
unfoldable pub keys_under : ℕ → List Edge → ℕ → List ℕ
keys_under n pairs value = filter (λ k. list_any (λ p. p.key == k && p.value == value) pairs) (range_with_len 0 n)

-- those of each value below m
unfoldable pub all_keys : ℕ → ℕ → List Edge → List (List ℕ)
all_keys m n pairs = map (keys_under n pairs) (range_with_len 0 m)

-- ---- movers: the tops that stand for others and move, by their homes

-- the common file comes first, then the files
abbrev pub rank_of : Home → Option ℕ
rank_of Common = Some 0
rank_of (Local file) = Some (file + 1)
rank_of Stay = None

abbrev pub ranked_one : Option ℕ → ℕ → List Edge
ranked_one None n = []
ranked_one (Some rank) n = pair rank n ∷ []

-- under the rank of its home each number of a list of users, of which the first has that
unfoldable pub ranked : List ℕ → ℕ → List (List ℕ) → List Edge
ranked files n [] = []
ranked files n (us ∷ lists) = ranked_one (rank_of (home_of files us)) n ++ ranked files (n + 1) lists

-- the movers of all homes
unfoldable pub movers_by : List ℕ → ℕ → List (List ℕ) → List ℕ
movers_by files_of_units files users = concat (grouped (files + 1) (ranked files_of_units 0 users))

-- ---- partial units: the movers with one list of users

abbrev pub users_at : List (List ℕ) → ℕ → List ℕ
users_at lists n = slice_index_or lists n []

-- each list of users once, as it comes
unfoldable pub lists_of : List (List ℕ) → List ℕ → List (List ℕ)
lists_of users movers = distinct (map (users_at users) movers)

abbrev pub number_of : List (List ℕ) → List ℕ → ℕ
number_of lists us = position_or_len (same_numbers us) lists

-- under the number of its list of users each mover
unfoldable pub numbered : List (List ℕ) → List ℕ → List Edge
numbered users movers = map (λ m. pair (number_of (lists_of users movers) (users_at users m)) m) movers

-- the file of a rank, where that of the common file is the number of files
abbrev pub file_of_rank : ℕ → Option ℕ → ℕ
file_of_rank files None = 0
file_of_rank files (Some zero) = files
file_of_rank files (Some (suc file)) = file

abbrev pub place_of_rank : Option ℕ → ℕ → Place
place_of_rank None n = InUnit
place_of_rank (Some zero) n = InCommon n
place_of_rank (Some (suc file)) n = InFile n

abbrev pub partial_of : List ℕ → ℕ → List ℕ → List ℕ → Partial
partial_of files_of_units files us tops = record { file = file_of_home files (home_of files_of_units us); users = us; tops = tops }

-- one for each list of users, with its tops
unfoldable pub partials_of : List ℕ → ℕ → List (List ℕ) → List (List ℕ) → List Partial
partials_of files_of_units files lists tops = map (λ p. partial_of files_of_units files p.0 p.1) (zip lists tops)

-- those of all movers
unfoldable pub parts_by : List ℕ → ℕ → List (List ℕ) → List Partial
parts_by files_of_units files users =
    let movers = movers_by files_of_units files users in
    let lists = lists_of users movers in
    partials_of files_of_units files lists (grouped (length lists) (numbered users movers))

-- ---- homes

-- where the last of the pairs with a value puts it, whose key is a partial unit's number
unfoldable pub placed : List ℕ → List (List ℕ) → List Edge → ℕ → Place
placed files users pairs n = fold (λ h p. if p.value == n then place_at (home_of files (users_at users n)) p.key else h) InUnit pairs

-- where the pairs of all movers put it
abbrev pub placed_by : List ℕ → ℕ → List (List ℕ) → ℕ → Place
placed_by files_of_units files users n = placed files_of_units users (numbered users (movers_by files_of_units files users)) n

-- ---- what stays

abbrev pub is_in_unit : Place → Bool
is_in_unit (InCommon n) = false
is_in_unit (InFile n) = false
is_in_unit InUnit = true

abbrev pub same_bool : Bool → Bool → Bool
same_bool true b = b
same_bool false b = not b

-- what stands for a top after, by where it goes and by what stands for those alike to it
abbrev pub stander : List Place → List ℕ → ℕ → ℕ
stander homes reps n = if is_in_unit (slice_index_or homes n InUnit) then n else slice_index reps n

abbrev pub staying_one : Bool → TopRow → Place → ℕ → List Edge
staying_one pinned row h n = if same_bool row.pinned pinned && is_in_unit h then pair row.unit n ∷ [] else []

-- under its unit the number of each top that stays, of those that are pinned or of the others; the first has that number
unfoldable pub staying_pairs : Bool → ℕ → List TopRow → List Place → List Edge
staying_pairs pinned n [] homes = []
staying_pairs pinned n (row ∷ rows) [] = []
staying_pairs pinned n (row ∷ rows) (h ∷ homes) = staying_one pinned row h n ++ staying_pairs pinned (n + 1) rows homes
