-- Inner: nodes by numbers that tell name list and class, and lists of such numbers in order.
use Rattle.std.specs.Prelude.{ℕ, ◌+◌, ◌*◌, ◌^◌, List, slice_index}
use Rattle.std.specs.List.Sorted.{IsStrictlyIncreasing}
use Rattle.dwz_def_check.specs.CrossRows.{SameMembers}

-- of a node: by its name list, and then by its class
abbrev pub key : List ℕ → List ℕ → ℕ → ℕ
key classes names n = slice_index names n * 2 ^ 32 + slice_index classes n

-- the same numbers in order, each once
pub record IsInOrder (numbers : List ℕ) (sorted : List ℕ) : Type 0 where
  pub rises : IsStrictlyIncreasing sorted
  pub same : SameMembers numbers sorted
