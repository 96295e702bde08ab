-- Rows that are alike, their users and homes; and the groups, which are the partial units if each row that has a home moves.
use Rattle.std.specs.Prelude.{ℕ, suc, Bool, true, List, [], ◌∷◌, ◌++◌, ◌==◌, ◌&&◌, filter, find, length, map, slice_index, if◌then◌else◌}
use Rattle.std.specs.Option.{option_map_or}
use Rattle.std.specs.List.{flat_map, list_any, position_or_len, range_with_len}
use Rattle.dwz_def_reading.specs.Rows.{has}
use Rattle.dwz_def_plan.specs.Homes.{Common, Home, Local, Stay, home_in, same_home}
use Rattle.dwz_def_plan.specs.Plan.{distinct}
use Rattle.dwz_def_tops.specs.Spots.{same_numbers}
use Rattle.dwz_plan.specs.declared.plan.Home.{Home as Place}
use Rattle.dwz_plan.specs.declared.plan.Home.TheVariants.{Common as InCommon, Local as InFile, Stay as InUnit}
use Rattle.dwz_plan.specs.declared.plan.Partial.{Partial}
use Rattle.dwz_plan.specs.declared.plan.Scope.{Scope}
use Rattle.dwz_plan.specs.declared.plan.Scope.TheVariants.{Together, Each}
use Rattle.dwz_plan.specs.Rows.{Given, TopFacts}

-- ---- alike, users, the one that stands for all

abbrev pub in_scope : Scope → TopFacts → TopFacts → Bool
in_scope Together a b = true
in_scope Each a b = a.file == b.file

-- both may move, in one scope, with one least
abbrev pub alike : Scope → TopFacts → TopFacts → Bool
alike scope a b = a.movable && (b.movable && (in_scope scope a b && a.least == b.least))

abbrev pub units_of : Given → List ℕ
units_of g = range_with_len 0 (length g.files_of_units)

-- the units that have a row alike to it, in order
unfoldable pub users : Given → TopFacts → List ℕ
users g a = filter (λ unit. list_any (λ b. b.unit == unit && alike g.scope a b) g.rows) (units_of g)

-- the number of the first row alike to it; else its own
abbrev pub rep : Given → TopFacts → ℕ
rep g a = option_map_or (λ b. b.number) (find (alike g.scope a) g.rows) a.number

abbrev pub reps_of : Given → List ℕ
reps_of g = map (rep g) g.rows

-- ---- homes

-- the home of what these units use
abbrev pub home_of : List ℕ → List ℕ → Home
home_of files us = home_in (map (slice_index files) us)

abbrev pub home : Given → TopFacts → Home
home g a = home_of g.files_of_units (users g a)

-- ---- groups: the partial units, if each row that has a home moves

-- the rows that stand for those alike to them and have that home
unfoldable pub representatives : Given → Home → List TopFacts
representatives g h = filter (λ a. same_home (home g a) h && rep g a == a.number) g.rows

abbrev pub numbers : List TopFacts → List ℕ
numbers rows = map (λ a. a.number) rows

-- the common file's number is the number of files
abbrev pub file_of_home : ℕ → Home → ℕ
file_of_home files Common = files
file_of_home files (Local file) = file
file_of_home files Stay = 0

abbrev pub partial_with : Given → Home → List ℕ → Partial
partial_with g h us = record {
  file = file_of_home g.files h;
  users = us;
  tops =
      numbers (filter (λ a. same_numbers (users g a) us) (representatives g h));
}

-- one for each list of users, in the order of the first rows
unfoldable pub partials_at : Given → Home → List Partial
partials_at g h = map (partial_with g h) (distinct (map (users g) (representatives g h)))

-- those of the common file, and then those of each file
unfoldable pub partials : Given → List Partial
partials g = partials_at g Common ++ flat_map (λ file. partials_at g (Local file)) (range_with_len 0 g.files)

-- ---- of each row

-- the number of the first partial unit with these users
abbrev pub number_in : List Partial → List ℕ → ℕ
number_in parts us = position_or_len (λ part. same_numbers us part.users) parts

abbrev pub place_at : Home → ℕ → Place
place_at Common n = InCommon n
place_at (Local file) n = InFile n
place_at Stay n = InUnit

-- where it goes, with the number of the partial unit
unfoldable pub place : Given → TopFacts → Place
place g a = place_at (home g a) (number_in (partials g) (users g a))

-- ---- of each unit

-- the numbers of the partial units that it uses, the first of which has that number
unfoldable pub imports_from : ℕ → ℕ → List Partial → List ℕ
imports_from unit n [] = []
imports_from unit n (part ∷ parts) = if has unit part.users then n ∷ imports_from unit (suc n) parts else imports_from unit (suc n) parts

-- ---- a plan

pub record Planned : Type 0 where
  pub partials : List Partial
  -- for each top
  pub homes : List Place
  pub stand_ins : List ℕ
  -- for each unit
  pub kept : List (List ℕ)
  pub imports : List (List ℕ)
