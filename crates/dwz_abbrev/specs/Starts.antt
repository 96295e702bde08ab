-- Where the declarations of a table begin.
use Rattle.std.specs.Prelude.{◌≡◌, ℕ, All, List, [], length, drop, Option, Some, None, Ok, slice_get}
use Rattle.std.specs.Borrow.{Bor}
use Rattle.dwz_bytes.specs.Input.{Input, input}
use Rattle.dwz_def_reading.specs.Abbrevs.{Declaration, declarations_at, find_decl, table_at}

-- each declaration begins at its place, and the table there is the declaration and those behind it
pub record AreStarts (section : List ℕ) (table : List Declaration) (starts : List ℕ) : Type 0 where
  pub as_many : length starts ≡ length table
  pub each : (n place : ℕ) → slice_get starts n ≡ Some place → table_at section place ≡ Ok (drop n table)

-- The same of the declarations that were read up to an input: from each place on those behind it are read, and then what follows
-- the input.
pub record Reach (section : List ℕ) (table : List Declaration) (starts : List ℕ) (i : Input) : Type 0 where
  pub as_many : length starts ≡ length table
  pub here : i ≡ input section i.at
  pub each : (n place : ℕ) → slice_get starts n ≡ Some place → declarations_at (drop n table) i ≡ declarations_at [] (input section place)

-- What was read of the table at an offset: all of it; or, where it was read up to a place, the declarations before that, behind
-- which the table goes on there.
abbrev pub IsReadUpTo : List ℕ → ℕ → List Declaration → List ℕ → Option ℕ → Type 0
IsReadUpTo section at table starts None = (table_at section at ≡ Ok table) × AreStarts section table starts
IsReadUpTo section at table starts (Some place) =
    (declarations_at table (input section place) ≡ declarations_at [] (input section at)) × Reach section table starts (input section place)

-- a place is in one of the lists
pub record IsStop (stops : List (Bor (List ℕ))) (place : ℕ) : Type 0 where
  pub list : ℕ
  pub starts : Bor (List ℕ)
  pub there : slice_get stops list ≡ Some starts
  pub nth : ℕ
  pub here : slice_get starts.now nth ≡ Some place

-- no declaration of the first has its code among the others
abbrev pub HaveOtherCodes : List Declaration → List Declaration → Type 0
HaveOtherCodes own others = All (λ d. find_decl others d.code ≡ None) own
