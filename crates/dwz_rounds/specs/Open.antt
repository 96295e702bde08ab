-- The nodes that a round looks at.
use Rattle.std.specs.Prelude.{◌≡◌, ◌<◌, ◌≤◌, ℕ, All, Bool, List, length, slice_index}
use Rattle.dwz_nodes.specs.Among.{Among}
use Rattle.dwz_nodes.specs.Graph.{Node, targets_at}
use Rattle.dwz_rounds.specs.Marked.{IsMarked}

-- each of these has the class that it had before
abbrev pub AreKept : List ℕ → List ℕ → List ℕ → Type 0
AreKept before classes targets = (i : ℕ) → i < length targets → slice_index before (slice_index targets i) ≡ slice_index classes (slice_index targets i)

-- none of these is marked
abbrev pub AreSteady : List Bool → List ℕ → Type 0
AreSteady moved targets = (i : ℕ) → i < length targets → ¬ (IsMarked moved (slice_index targets i))

-- another node has the class of this one
abbrev pub IsShared : List ℕ → ℕ → Type 0
IsShared classes a = (b : ℕ) × (b < length classes) × (¬ (a ≡ b)) × (slice_index classes a ≡ slice_index classes b)

-- the list has all nodes whose class others have
pub record HasShared (classes live : List ℕ) : Type 0 where
  pub few : length live ≤ length classes
  pub inside : All (λ a. a < length classes) live
  pub all : (a : ℕ) → a < length classes → IsShared classes a → Among live a

-- of the first n nodes of the list each whose class isn't marked is the least of its class
abbrev pub MarksShared : List ℕ → List ℕ → ℕ → List Bool → Type 0
MarksShared classes live n shared = (i : ℕ) → i < n → ¬ (IsMarked shared (slice_index classes (slice_index live i))) → slice_index classes (slice_index live i) ≡ slice_index live i

-- each that isn't marked has the class that it had before
abbrev pub MarksMoved : List ℕ → List ℕ → List ℕ → ℕ → List Bool → Type 0
MarksMoved before classes live n moved = (i : ℕ) → i < n → ¬ (IsMarked moved (slice_index live i)) → slice_index before (slice_index live i) ≡ slice_index classes (slice_index live i)

-- each whose class isn't marked has no target that has moved
abbrev pub MarksChanged : List Node → List Bool → List ℕ → List ℕ → ℕ → List Bool → Type 0
MarksChanged g moved classes live n changed = (i : ℕ) → i < n → ¬ (IsMarked changed (slice_index classes (slice_index live i))) → AreSteady moved (targets_at g (slice_index live i))

-- of the first n nodes of the list those whose class is marked
pub record AreOfMarked (classes : List ℕ) (marks : List Bool) (live : List ℕ) (n : ℕ) (kept : List ℕ) : Type 0 where
  pub few : length kept ≤ n
  pub from : (a : ℕ) → Among kept a → Among live a × IsMarked marks (slice_index classes a)
  pub all : (i : ℕ) → i < n → IsMarked marks (slice_index classes (slice_index live i)) → Among kept (slice_index live i)
