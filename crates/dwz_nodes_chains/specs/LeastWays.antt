-- Which targets tell two nodes apart: the least way from both, target by target, to two that differ by themselves.
use Rattle.std.specs.Prelude.{◌≡◌, ℕ, suc, ◌<◌, List, [], ◌∷◌, length, slice_index}
use Rattle.dwz_nodes.specs.Graph.{Node, targets_at}
use Rattle.dwz_nodes.specs.Looks.{LookEqual}

-- the target of a with the number i, counted from 0
abbrev pub target_at : List Node → ℕ → ℕ → ℕ
target_at g a i = slice_index (targets_at g a) i

-- where the targets with these numbers, one after the other, lead to
abbrev pub end_of : List Node → List ℕ → ℕ → ℕ
end_of g [] a = a
end_of g (i ∷ way) a = end_of g way (target_at g a i)

-- they differ in their labels, or in how many targets they have: a look of depth 1 tells them apart
abbrev pub DifferHere : List Node → ℕ → ℕ → Type 0
DifferHere g a b = LookEqual g 1 a b → ⊥

-- The least way of all that lead from a and b to two nodes that differ by themselves: no look of less depth than its own tells a and b
-- apart; and looks of the depth that is left tell the targets with its first number apart, and none before these.
abbrev pub IsLeastWay : List Node → List ℕ → ℕ → ℕ → Type 0
IsLeastWay g [] a b = DifferHere g a b
IsLeastWay g (i ∷ way) a b =
    LookEqual g (suc (length way)) a b
    × (i < length (targets_at g a))
    × ((j : ℕ) → j < i → LookEqual g (suc (length way)) (target_at g a j) (target_at g b j))
    × IsLeastWay g way (target_at g a i) (target_at g b i)

-- the least way, and the nodes that it leads to
pub record IsApart (g : List Node) (a b : ℕ) (way : List ℕ) (first second : ℕ) : Type 0 where
  pub least : IsLeastWay g way a b
  pub first_is : end_of g way a ≡ first
  pub second_is : end_of g way b ≡ second
