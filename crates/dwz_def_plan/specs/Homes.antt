-- Users, representatives and homes of tops, and which of the tops that have a home move.
use Rattle.std.specs.Prelude.{◌≡◌, ℕ, zero, suc, Bool, true, false, List, [], ◌∷◌, map, ◌==◌, ◌&&◌, not}
use Rattle.std.specs.List.{filter, list_any}
use Rattle.dwz_def_reading.specs.Lists.{In}
use Rattle.dwz_def_tops.specs.Alike.{refers_to}
use Rattle.dwz_def_tops.specs.Deciding.{Test}
use Rattle.dwz_def_tops.specs.Spots.{EntryName, FileUnit, Top, tops_of}

-- ---- users and representative; alike is a test of two movable tops in one scope

-- the numbers of n units, the first of which is given
unfoldable pub numbers_from : {X : Type 0} → ℕ → List X → List ℕ
numbers_from i [] = []
numbers_from i (x ∷ xs) = i ∷ numbers_from (suc i) xs

-- a top of the unit is alike to the one with this number
abbrev pub unit_uses : Test → List Top → ℕ → ℕ → Bool
unit_uses alike tops n unit = list_any (λ t. t.unit == unit && alike n t.number) tops

-- the units that have a top alike to it, in order
unfoldable pub users : Test → List (FileUnit EntryName) → ℕ → List ℕ
users alike units n = filter (unit_uses alike (tops_of units) n) (numbers_from 0 units)

-- the first top alike to it
unfoldable pub first_alike : Test → ℕ → List Top → ℕ
first_alike alike n [] = n
first_alike alike n (t ∷ tops) = elim (alike n t.number) as (λ _. ℕ) [ true ↦ t.number | false ↦ first_alike alike n tops ]

abbrev pub rep : Test → List (FileUnit EntryName) → ℕ → ℕ
rep alike units n = first_alike alike n (tops_of units)

-- ---- homes

-- the file of a unit
unfoldable pub file_of : List (FileUnit EntryName) → ℕ → ℕ
file_of [] i = 0
file_of (f ∷ units) zero = f.file
file_of (f ∷ units) (suc i) = file_of units i

-- the common file, the partial units of a file, or its own unit
pub data Home : Type 0 where
  Common : Home
  Local : (file : ℕ) → Home
  Stay : Home

-- the units are of two files or more
abbrev pub in_two_files : List ℕ → Bool
in_two_files [] = false
in_two_files (file ∷ files) = list_any (λ f. not (f == file)) files

abbrev pub home_in : List ℕ → Home
home_in [] = Stay
home_in (file ∷ []) = Stay
home_in (file ∷ other ∷ files) = elim (in_two_files (file ∷ other ∷ files)) as (λ _. Home) [ true ↦ Common | false ↦ Local file ]

-- where a top goes if it moves: two users or more make a home, by their files
unfoldable pub candidate : Test → List (FileUnit EntryName) → ℕ → Home
candidate alike units n = home_in (map (file_of units) (users alike units n))

abbrev pub is_home : Home → Bool
is_home Stay = false
is_home (Local file) = true
is_home Common = true

abbrev pub same_home : Home → Home → Bool
same_home Common Common = true
same_home (Local a) (Local b) = a == b
same_home Stay Stay = true
same_home _ _ = false

-- ---- which tops move

-- which tops are alike, and which of them are chosen to move
pub record Rule : Type 0 where
  pub alike : Test
  pub chosen : ℕ → Bool

unfoldable pub home : Rule → List (FileUnit EntryName) → ℕ → Home
home rule units n = elim (rule.chosen n) as (λ _. Home) [ true ↦ candidate rule.alike units n | false ↦ Stay ]

abbrev pub moves : Rule → List (FileUnit EntryName) → ℕ → Bool
moves rule units n = is_home (home rule units n)

-- What is asked of a choice: alike tops are chosen together, and what a moving top refers to is chosen. That only tops with two
-- users or more move is no part of it, as only these have a home.
pub record IsChoice (units : List (FileUnit EntryName)) (rule : Rule) : Type 0 where
  pub together : (m n : ℕ) → rule.alike m n ≡ true → rule.chosen m ≡ rule.chosen n
  pub targets : (t : Top) → In t (tops_of units) → moves rule units t.number ≡ true → (m : ℕ) → refers_to m t ≡ true → rule.chosen m ≡ true

-- each top that has a home moves
abbrev pub all_rule : Test → Rule
all_rule alike = record { alike = alike; chosen = λ n. true }
