-- Targets, turned round: the tops that refer into each.
use Rattle.std.specs.Prelude.{ℕ, suc, List, [], ◌∷◌, ◌++◌, map}
use Rattle.dwz_groups.specs.declared.groups.Edge.{Edge}

-- a top refers into another
abbrev pub source : ℕ → ℕ → Edge
source n m = record { key = m; value = n }

-- each top in order, the first of which has that number, under each of its targets
abbrev pub sources_from : ℕ → List (List ℕ) → List Edge
sources_from n [] = []
sources_from n (ts ∷ targets) = map (source n) ts ++ sources_from (suc n) targets
