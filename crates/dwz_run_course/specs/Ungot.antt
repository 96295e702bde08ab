-- Inner: why contents weren't got.
use Rattle.std.specs.Prelude.{◌≡◌, ℕ, ◌<◌, ◌≤◌, ◌^◌, ◌++◌, List, [], get_or, length, drop, option_map, IfSome}
use Rattle.dwz_outside.specs.Told.{FailedRead, FilesSeen, LeavesPuts}
use Rattle.dwz_run_course.specs.Gets.{gets_by}
use Rattle.dwz_run_course.specs.declared.getting.GetStop.{GetStop}
use Rattle.dwz_run_course.specs.declared.getting.GetStop.TheVariants.{Failed, NoMemory}

-- the get of the name of this number failed; want of memory is always an answer
abbrev pub IsUngot : FilesSeen → FilesSeen → List (List ℕ) → GetStop → Type 0
IsUngot old new names (Failed i) = (i < length names) × FailedRead old new (get_or names i [])
IsUngot old new names NoMemory = Unit {0}

-- the contents of the first names are got, and have so many bytes together; the next one may be so long by itself
pub record GotSoFar (old new : FilesSeen) (first longest behind : ℕ) (names : List (List ℕ)) (i : ℕ) (contents : List (List ℕ)) (before : ℕ) : Type 0 where
  pub got : IfSome old.held (λ store. gets_by first behind store 0 names ≡ option_map (λ rest. contents ++ rest) (gets_by longest behind store before (drop i names)))
  pub leaves : LeavesPuts old new
  pub few : before ≤ 2 ^ 29
  pub rises : old.read_faults ≤ new.read_faults
