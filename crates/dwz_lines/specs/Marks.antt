-- Rows of which some are marked.
use Rattle.std.specs.Prelude.{◌≡◌, ℕ, zero, suc, ◌+◌, List, [], ◌∷◌, length, Option, Some, None}
use Rattle.std.specs.List.{All}
use Rattle.dwz_bytes.specs.Input.{Input}
use Rattle.dwz_lines.specs.declared.marked_rows.Mark.{Mark}
use Rattle.dwz_lines.specs.Reading.{bind}

abbrev pub with_rest : {X : Type 0} → (Input → List X) → Option (X × Input) → List X
with_rest rest None = []
with_rest rest (Some x) = x.0 ∷ rest x.1

-- so many items, up to the first that isn't read
unfoldable pub rows_up_to : {X : Type 0} → (Input → Option (X × Input)) → ℕ → Input → List X
rows_up_to item zero i = []
rows_up_to item (suc n) i = with_rest (rows_up_to item n) (item i)

-- the item behind so many
unfoldable pub nth_in : {X : Type 0} → (Input → Option (X × Input)) → ℕ → Input → Option X
nth_in item zero i = bind (item i) (λ x. Some x.0)
nth_in item (suc n) i = bind (item i) (λ x. nth_in item n x.1)

-- behind so many items there is what an input gives
abbrev pub Stands : {X : Type 0} → (Input → Option (X × Input)) → Input → ℕ → Input → Type 0
Stands item begin number i = (k : ℕ) → nth_in item (number + k) begin ≡ nth_in item k i

abbrev pub IsMark : {X : Type 0} → (Input → Option (X × Input)) → Input → Mark → Type 0
IsMark item begin mark = Stands item begin mark.number mark.begin

pub record AreMarked {X : Type 0} (item : Input → Option (X × Input)) (count : ℕ) (begin : Input) (marks : List Mark) : Type 0 where
  pub all : length (rows_up_to item count begin) ≡ count
  pub each : All (IsMark item begin) marks
