-- The lists that spans of one row stand for.
use Rattle.std.specs.Prelude.{ℕ, ◌≤◌, All, List, map, slice_range}
use Rattle.dwz_nodes.specs.declared.back.Span.{Span}

-- the part of the row that each span has
abbrev pub lists_of : {X : Type 0} → List Span → List X → List (List X)
lists_of spans row = map (λ s. slice_range row s.start s.end) spans

-- each span ends at its start or behind it, and within the first n places
abbrev pub AreWithin : List Span → ℕ → Type 0
AreWithin spans n = All (λ s. (s.start ≤ s.end) × (s.end ≤ n)) spans
