-- Classes that are numbered, and where their members stand in one row.
use Rattle.std.specs.Prelude.{◌≡◌, ℕ, ◌<◌, ◌≤◌, All, List, length, slice_index, slice_index_or}
use Rattle.dwz_rounds.specs.declared.members.Range.{Range}

-- the range with the number c
abbrev pub range_at : List Range → ℕ → Range
range_at ranges c = slice_index_or ranges c (record { start = 0; end = 0; live = 0 })

-- a stands in the range of its class
pub record IsMember (numbers : List ℕ) (ranges : List Range) (members : List ℕ) (a : ℕ) : Type 0 where
  pub number : slice_index numbers a < length ranges
  pub place : ℕ
  pub above : (range_at ranges (slice_index numbers a)).start ≤ place
  pub below : place < (range_at ranges (slice_index numbers a)).end
  pub is : slice_index members place ≡ a

-- each node stands in the range of its class. Nodes that have left a class may stand in its range too.
pub record AreMembers (numbers : List ℕ) (ranges : List Range) (members : List ℕ) : Type 0 where
  pub few : length ranges ≤ length numbers
  pub within : (c : ℕ) → c < length ranges → ((range_at ranges c).start ≤ (range_at ranges c).end)
      × ((range_at ranges c).end ≤ length members)
  pub nodes : All (λ a. a < length numbers) members
  pub each : (a : ℕ) → a < length numbers → IsMember numbers ranges members a
