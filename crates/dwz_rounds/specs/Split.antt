-- New numbers for the parts of classes, node by node.
use Rattle.std.specs.Prelude.{◌≡◌, ℕ, suc, ◌<◌, ◌≤◌, ◌⊎◌, true, false, Bool, List, [], ◌∷◌, ◌++◌, length, slice_index, slice_index_or}
use Rattle.dwz_nodes.specs.Order.{IsNewAt}
use Rattle.dwz_nodes.specs.Among.{Among}
use Rattle.dwz_rounds.specs.Marked.{IsMarked}
use Rattle.dwz_rounds.specs.declared.members.Range.{Range}
use Rattle.dwz_rounds.specs.declared.split.Part.{Part}

-- where the largest part of the class begins
abbrev pub start_of : List Part → ℕ → ℕ
start_of parts class = (slice_index_or parts class (record { start = 0; len = 0 })).start

-- a range with nothing in it, at this place
abbrev pub new_range : ℕ → Range
new_range at = record { start = at; end = at; live = 0 }

-- The number for the node at a place: that of the part that goes on; or that of the class, for the part that keeps it; or a new one.
abbrev pub IsChoice : ℕ → Bool → ℕ → ℕ → ℕ → List Bool → List Part → List Range → ℕ → ℕ → List Range → Type 0
IsChoice at is_new class number limit whole parts ranges end next after =
    ((is_new ≡ false) × (next ≡ number) × (after ≡ ranges))
    ⊎ (((is_new ≡ true) × (next ≡ class) × IsMarked whole class × (start_of parts class ≡ at) × (after ≡ ranges))
    ⊎ ((is_new ≡ true) × (next ≡ length ranges) × (length ranges < limit) × (after ≡ ranges ++ new_range end ∷ [])))

-- nodes with one key stand together, and had one number
pub record IsGrouped (key : ℕ → List ℕ) (old nodes : List ℕ) (news : List Bool) : Type 0 where
  pub each : (i : ℕ) → i < length nodes → IsNewAt (λ j. key (slice_index nodes j)) news i
  pub old_same : (i j : ℕ) → i < length nodes → j < length nodes → key (slice_index nodes i) ≡ key (slice_index nodes j)
      → slice_index old (slice_index nodes i) ≡ slice_index old (slice_index nodes j)

-- the node at p keeps its number, since it is of the part of its class that does
pub record IsKept (key : ℕ → List ℕ) (nodes old : List ℕ) (whole : List Bool) (parts : List Part) (new : List ℕ) (p : ℕ) : Type 0 where
  pub is : slice_index new (slice_index nodes p) ≡ slice_index old (slice_index nodes p)
  pub of_whole : IsMarked whole (slice_index old (slice_index nodes p))
  pub above : start_of parts (slice_index old (slice_index nodes p)) ≤ p
  pub same : key (slice_index nodes (start_of parts (slice_index old (slice_index nodes p)))) ≡ key (slice_index nodes p)

-- the first n nodes have their new numbers: new ones from count on, different ones for different keys
pub record IsSplitting (key : ℕ → List ℕ) (nodes old : List ℕ) (whole : List Bool) (parts : List Part) (count n : ℕ) (new pending : List ℕ)
    (number : ℕ) : Type 0 where
  pub other : (a : ℕ) → ((p : ℕ) → p < n → ¬ (slice_index nodes p ≡ a)) → slice_index new a ≡ slice_index old a
  pub same : (p q : ℕ) → p < n → q < n → key (slice_index nodes p) ≡ key (slice_index nodes q) → slice_index new (slice_index nodes p)
      ≡ slice_index new (slice_index nodes q)
  pub apart : (p q : ℕ) → p < n → q < n → slice_index new (slice_index nodes p) ≡ slice_index new (slice_index nodes q)
      → key (slice_index nodes p) ≡ key (slice_index nodes q)
  pub each : (p : ℕ) → p < n → IsKept key nodes old whole parts new p ⊎ (count ≤ slice_index new (slice_index nodes p))
  pub last : (p : ℕ) → n ≡ suc p → slice_index new (slice_index nodes p) ≡ number
  pub from : (a : ℕ) → Among pending a → (p : ℕ) × (p < n) × (slice_index nodes p ≡ a) × (count ≤ slice_index new a)
  pub all : (p : ℕ) → p < n → count ≤ slice_index new (slice_index nodes p) → Among pending (slice_index nodes p)
