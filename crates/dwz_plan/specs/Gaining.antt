-- Which groups gain by themselves, and which groups refer into which.
use Rattle.std.specs.Prelude.{ℕ, ◌+◌, ◌-◌, ◌*◌, ◌<◌, Bool, List, [], ◌∷◌, ◌++◌, Option, Some, None, map, nat_lt, slice_index_or}
use Rattle.dwz_groups.specs.declared.groups.Edge.{Edge}
use Rattle.dwz_groups.specs.declared.tops.TopRow.{TopRow}

abbrev pub weights_of : List TopRow → List ℕ
weights_of rows = map (λ row. row.weight) rows

abbrev pub weight_at : List ℕ → ℕ → ℕ
weight_at weights t = slice_index_or weights t 0

-- the weights of tops together
unfoldable pub weight_of : List ℕ → List ℕ → ℕ
weight_of weights [] = 0
weight_of weights (t ∷ tops) = weight_at weights t + weight_of weights tops

-- so many users and that weight save more than they take
unfoldable pub gains_alone : ℕ → ℕ → Bool
gains_alone users weight = nat_lt (16 + 6 * users) ((users - 1) * weight)

-- one group refers into another
abbrev pub edge : ℕ → ℕ → Edge
edge from into = record { key = from; value = into }

abbrev pub edge_to : ℕ → Option ℕ → List Edge
edge_to from None = []
edge_to from (Some into) = edge from into ∷ []

abbrev pub group_at : List (Option ℕ) → ℕ → Option ℕ
group_at groups t = slice_index_or groups t None

-- a group refers into those of these tops
unfoldable pub edges_at : List (Option ℕ) → ℕ → List ℕ → List Edge
edges_at groups from [] = []
edges_at groups from (t ∷ targets) = edge_to from (group_at groups t) ++ edges_at groups from targets

abbrev pub edges_to : List (Option ℕ) → Option ℕ → List ℕ → List Edge
edges_to groups None targets = []
edges_to groups (Some from) targets = edges_at groups from targets

-- the group of each top refers into the groups of the top's targets
unfoldable pub edges_from : List (Option ℕ) → List (Option ℕ) → List (List ℕ) → List Edge
edges_from groups [] targets = []
edges_from groups (from ∷ froms) [] = []
edges_from groups (from ∷ froms) (ts ∷ targets) = edges_to groups from ts ++ edges_from groups froms targets

-- it is below n, if there is one
abbrev pub AreNumbers : ℕ → Option ℕ → Type 0
AreNumbers n None = Unit {0}
AreNumbers n (Some g) = g < n
