-- Labels one behind the other, and the tops that each leads into, as pairs of the label's number and a top's.
use Rattle.std.specs.Prelude.{◌≡◌, ℕ, suc, ◌<◌, List, [], ◌∷◌, ◌++◌, length, map}
use Rattle.dwz_groups.specs.declared.groups.Edge.{Edge}
use Rattle.dwz_def_reading.specs.Lists.{Each}
use Rattle.dwz_check_index.specs.declared.index.TopEntry.{TopEntry}

abbrev pub edge : ℕ → ℕ → Edge
edge key value = record { key = key; value = value }

-- of lists of which the first has that number
abbrev pub edges_from : ℕ → List (List ℕ) → List Edge
edges_from key [] = []
edges_from key (list ∷ lists) = map (edge key) list ++ edges_from (suc key) lists

-- these labels were appended, and these lists
pub record Adds (labels lists : List (List ℕ)) (old new : List (List ℕ)) (before after : List Edge) : Type 0 where
  pub labels_are : new ≡ old ++ labels
  pub edges_are : after ≡ before ++ edges_from (length old) lists

-- the entries of tops have numbers below that one, and so have what these stand in
abbrev pub AreTopsWithin : ℕ → List TopEntry → Type 0
AreTopsWithin count tops = Each (λ t. (t.entry < count) × (t.outer < count)) tops

abbrev pub AreWithin : ℕ → List ℕ → Type 0
AreWithin count entries = Each (λ i. i < count) entries

-- each pair is of a label below that number
abbrev pub AreKeysBelow : ℕ → List Edge → Type 0
AreKeysBelow count edges = Each (λ e. e.key < count) edges
