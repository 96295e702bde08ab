-- The places where a node is a target.
use Rattle.std.specs.Prelude.{◌≡◌, ℕ, ◌<◌, ◌⊎◌, AllPairs, List, [], Contains, length, slice_index, slice_index_or}
use Rattle.std.specs.List.{sum_by}
use Rattle.dwz_nodes.specs.Graph.{Node, targets_at}
use Rattle.dwz_nodes.specs.declared.uses.Use.{Use}

-- one of the nodes has a as target at this place
pub record IsUse (g : List Node) (a : ℕ) (u : Use) : Type 0 where
  pub source : u.source < length g
  pub position : u.position < length (targets_at g u.source)
  pub is : slice_index (targets_at g u.source) u.position ≡ a

-- of an earlier node, or of the same one and there at an earlier place
abbrev pub StandsBefore : Use → Use → Type 0
StandsBefore u v = (u.source < v.source) ⊎ ((u.source ≡ v.source) × (u.position < v.position))

-- the places where a is a target, in ascending order, each once
pub record AreUsesOf (g : List Node) (a : ℕ) (us : List Use) : Type 0 where
  pub each : (u : Use) → Contains us u → IsUse g a u
  pub all : (u : Use) → IsUse g a u → Contains us u
  pub rising : AllPairs StandsBefore us

-- how many targets the nodes have, all together
abbrev pub target_count : List Node → ℕ
target_count g = sum_by (λ n. length n.targets) g

-- the list at a
abbrev pub uses_at : List (List Use) → ℕ → List Use
uses_at lists a = slice_index_or lists a []

-- for each node the places where it is a target
pub record AreUses (g : List Node) (lists : List (List Use)) : Type 0 where
  pub len : length lists ≡ length g
  pub each : (a : ℕ) → a < length g → AreUsesOf g a (uses_at lists a)
