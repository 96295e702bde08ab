-- Inner: what holds of the row while sources are noted in it. No public clause cites it.
use Rattle.std.specs.Prelude.{◌≡◌, ℕ, ◌+◌, ◌-◌, ◌<◌, ◌≤◌, ◌==◌, ◌⊎◌, List, count_by, length, nat_lt, slice_index, slice_index_or}
use Rattle.std.specs.Prelude.{slice_range, slice_set, take}
use Rattle.std.specs.List.{flat_map}
use Rattle.dwz_nodes.specs.declared.back.Span.{Span}
use Rattle.dwz_nodes.specs.Graph.{Node}
use Rattle.dwz_nodes.specs.Back.{AreListed, IsSource}

-- the targets of all nodes, one node after the other
unfoldable pub all_targets : List Node → List ℕ
all_targets g = flat_map (λ n. n.targets) g

-- how many of the numbers are a
unfoldable pub count_at : List ℕ → ℕ → ℕ
count_at ts a = count_by (λ t. t == a) ts

-- how many of them are less than a
unfoldable pub count_below : List ℕ → ℕ → ℕ
count_below ts a = count_by (λ t. nat_lt t a) ts

abbrev pub span : ℕ → ℕ → Span
span s e = record { start = s; end = e }

-- the span of a
abbrev pub span_at : List Span → ℕ → Span
span_at spans a = slice_index_or spans a (span 0 0)

-- the part of the row that the span of a has
abbrev pub list_at : List Span → List ℕ → ℕ → List ℕ
list_at spans row a = slice_range row (span_at spans a).start (span_at spans a).end

-- Each number has a span, which begins behind a place for each target that is less. The span has at most a place for
-- each time that the number was seen.
pub record AreRooms (targets seen : List ℕ) (spans : List Span) : Type 0 where
  pub starts : (a : ℕ) → a < length spans → (span_at spans a).start ≡ count_below targets a
  pub rising : (a : ℕ) → a < length spans → (span_at spans a).start ≤ (span_at spans a).end
  pub ends : (a : ℕ) → a < length spans → (span_at spans a).end ≤ count_below targets a + count_at seen a

-- the nodes below n are noted at their targets
pub record IsFilled (g : List Node) (n : ℕ) (spans : List Span) (row : List ℕ) : Type 0 where
  pub len : length spans ≡ length g
  pub room : length row ≡ length (all_targets g)
  pub rooms : AreRooms (all_targets g) (all_targets (take n g)) spans
  pub listed : (a : ℕ) → a < length g → AreListed (IsSource g n a) (list_at spans row a)

-- the list ends in b
abbrev pub EndsIn : List ℕ → ℕ → Type 0
EndsIn xs b = (0 < length xs) × (slice_index xs (length xs - 1) ≡ b)

-- the number is appended to the span's part of the row, unless the part ended in it
abbrev pub IsNoted : ℕ → Span → List ℕ → Span → List ℕ → Type 0
IsNoted b old row new row' =
    ((new ≡ old) × (row' ≡ row) × EndsIn (slice_range row old.start old.end) b)
    ⊎ ((new ≡ span old.start (old.end + 1)) × (row' ≡ slice_set row old.end b) × (¬ (EndsIn (slice_range row old.start old.end) b)))
