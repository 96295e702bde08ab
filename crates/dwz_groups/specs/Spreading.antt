-- Marks that spread backwards over references.
use Rattle.std.specs.Prelude.{◌≡◌, ◌↔◌, ◌⊎◌, ℕ, zero, suc, ◌+◌, ◌<◌, Bool, true, false, List, [], ◌∷◌, length, slice_index_or}
use Rattle.dwz_model.specs.Lists.{In}

abbrev pub IsMarked : List Bool → ℕ → Type 0
IsMarked marks n = slice_index_or marks n false ≡ true

-- those that refer to n
abbrev pub sources_of : List (List ℕ) → ℕ → List ℕ
sources_of sources n = slice_index_or sources n []

-- by at most so many references n leads to what is marked
abbrev pub Leads : List (List ℕ) → List Bool → ℕ → ℕ → Type 0
Leads sources marks zero n = IsMarked marks n
Leads sources marks (suc k) n = Leads sources marks k n ⊎ ((m : ℕ) × In n (sources_of sources m) × Leads sources marks k m)

-- each refers to one of them, and is one
abbrev pub AreInside : List (List ℕ) → Type 0
AreInside sources = (m n : ℕ) → In n (sources_of sources m) → n < length sources

-- what leads to one that was marked is marked, and nothing else
pub record IsSpread (sources : List (List ℕ)) (old new : List Bool) : Type 0 where
  pub len : length new ≡ length old
  pub each : (n : ℕ) → IsMarked new n ↔ ((k : ℕ) × Leads sources old k n)

-- how many aren't marked
abbrev pub unmarked : List Bool → ℕ
unmarked [] = 0
unmarked (true ∷ marks) = unmarked marks
unmarked (false ∷ marks) = suc (unmarked marks)

-- all of the list are marked, and no other that wasn't; what wasn't is left to do
pub record Marks (list : List ℕ) (old : List Bool) (work : List ℕ) (new : List Bool) (more : List ℕ) : Type 0 where
  pub len : length new ≡ length old
  pub kept : (n : ℕ) → IsMarked old n → IsMarked new n
  pub listed : (n : ℕ) → In n list → IsMarked new n
  pub only : (n : ℕ) → IsMarked new n → IsMarked old n ⊎ (In n list × In n more)
  pub queued : (n : ℕ) → In n work → In n more
  pub from : (n : ℕ) → In n more → In n work ⊎ In n list
  pub count : length more + unmarked new ≡ length work + unmarked old
