-- Inner: what holds of the row while places are noted in it. No public clause cites it.
use Rattle.std.specs.Prelude.{◌≡◌, ℕ, ◌<◌, ◌⊎◌, ◌+◌, ◌++◌, AllPairs, Contains, List, length, slice_index, slice_range, take}
use Rattle.dwz_nodes.specs.declared.back.Span.{Span}
use Rattle.dwz_nodes.specs.declared.uses.Use.{Use}
use Rattle.dwz_nodes.specs.Graph.{Node, targets_at}
use Rattle.dwz_nodes.specs.Rooms.{AreRooms, all_targets, span, span_at}
use Rattle.dwz_nodes.specs.Uses.{StandsBefore}

-- a node before n, or n at a place before j, has a as target at this place
pub record IsEarlyUse (g : List Node) (n j a : ℕ) (u : Use) : Type 0 where
  pub early : (u.source < n) ⊎ ((u.source ≡ n) × (u.position < j))
  pub position : u.position < length (targets_at g u.source)
  pub is : slice_index (targets_at g u.source) u.position ≡ a

-- those places, in ascending order, each once
pub record AreEarlyUses (g : List Node) (n j a : ℕ) (us : List Use) : Type 0 where
  pub each : (u : Use) → Contains us u → IsEarlyUse g n j a u
  pub all : (u : Use) → IsEarlyUse g n j a u → Contains us u
  pub rising : AllPairs StandsBefore us

-- the span with one more place
abbrev pub grown : Span → Span
grown s = span s.start (s.end + 1)

-- the part of the row that the span of a has
abbrev pub part_at : List Span → List Use → ℕ → List Use
part_at spans row a = slice_range row (span_at spans a).start (span_at spans a).end

-- the places of the nodes before n, and those of n before j, are noted at the targets there
pub record AreNoted (g : List Node) (n j : ℕ) (spans : List Span) (row : List Use) : Type 0 where
  pub len : length spans ≡ length g
  pub room : length row ≡ length (all_targets g)
  pub rooms : AreRooms (all_targets g) (all_targets (take n g) ++ take j (targets_at g n)) spans
  pub listed : (a : ℕ) → a < length g → AreEarlyUses g n j a (part_at spans row a)
