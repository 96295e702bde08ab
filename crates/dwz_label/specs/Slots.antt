-- Inner: labels in slots. No public clause cites it.
use Rattle.std.specs.Prelude.{◌≡◌, ◌⊎◌, ℕ, ◌+◌, ◌%◌, ◌<◌, ◌≤◌, Bool, true, false, Contains, List, Option, Some, None, length, slice_index, slice_index_or}
use Rattle.std.specs.Hash.FoldHasher.{finish, initial, write}
use Rattle.dwz_nodes.specs.Looks.{IsLeastBelow}
use Rattle.dwz_label.specs.declared.equal.Keyed.{Keyed}
use Rattle.dwz_label.specs.declared.slots.Slots.{Slots}
use Rattle.dwz_label.specs.Shown.{nth_label}
use denote.Ref.{Bor}

-- the slot from which on a label is looked for
abbrev pub home_of : ℕ → List ℕ → ℕ
home_of size label = finish (write initial label) % size

-- the slot holds the number of a label, of another one
pub record HoldsOther (labels : List (List ℕ)) (slots : List ℕ) (label : List ℕ) (s : ℕ) : Type 0 where
  pub taken : slice_index slots s < length labels
  pub other : nth_label labels (slice_index slots s) ≡ label → ⊥

-- so many slots from one on hold other labels
abbrev pub HoldOthers : List (List ℕ) → List ℕ → List ℕ → ℕ → ℕ → Type 0
HoldOthers labels slots label start count = (j : ℕ) → j < count → HoldsOther labels slots label (start + j)

-- the slot is empty or holds the label; it is less than 16 behind the first one, and those between hold other labels
pub record IsFoundAt (labels : List (List ℕ)) (slots label : List ℕ) (start at : ℕ) : Type 0 where
  pub steps : ℕ
  pub few : steps < 16
  pub place : at ≡ start + steps
  pub before : HoldOthers labels slots label start steps
  pub here : slice_index slots at < length labels → nth_label labels (slice_index slots at) ≡ label

-- such a slot, or none where 16 hold other labels
abbrev pub IsFound : List (List ℕ) → List ℕ → List ℕ → ℕ → Option ℕ → Type 0
IsFound labels slots label start (Some at) = IsFoundAt labels slots label start at
IsFound labels slots label start None = HoldOthers labels slots label start 16

-- ---- labels that were put into slots

abbrev pub IsFree : List Bool → ℕ → Type 0
IsFree movable n = slice_index_or movable n false ≡ true

abbrev pub HaveOneLabel : List (List ℕ) → ℕ → ℕ → Type 0
HaveOneLabel labels n m = nth_label labels n ≡ nth_label labels m

-- all slots of a label hold other ones
abbrev pub IsCrowded : List (List ℕ) → ℕ → List ℕ → ℕ → Type 0
IsCrowded labels size slots n = HoldOthers labels slots (nth_label labels n) (home_of size (nth_label labels n)) 16

-- the number that stands at n is in the slot at which n's label is found
pub record IsSettled (labels : List (List ℕ)) (size : ℕ) (slots firsts : List ℕ) (n : ℕ) : Type 0 where
  pub at : ℕ
  pub inside : at < length slots
  pub found : IsFoundAt labels slots (nth_label labels n) (home_of size (nth_label labels n)) at
  pub taken : slice_index firsts n < length labels
  pub first : slice_index slots at ≡ slice_index firsts n

-- one of the rows has that number
abbrev pub HasRow : List (Keyed (Bor (List ℕ))) → ℕ → Type 0
HasRow rows n = (r : Keyed (Bor (List ℕ))) × Contains rows r × (r.number ≡ n)

-- a row of one below count that may move and all of whose slots hold other labels, under its label
pub record IsRest (labels : List (List ℕ)) (movable : List Bool) (size : ℕ) (slots : List ℕ) (count : ℕ) (r : Keyed (Bor (List ℕ))) : Type 0 where
  pub below : r.number < count
  pub free : IsFree movable r.number
  pub crowded : IsCrowded labels size slots r.number
  pub key : r.key.now ≡ nth_label labels r.number

-- those below count that may move were put: a slot holds the least number of its label, and each number is settled or has a row in the rest
pub record AreSlotted (labels : List (List ℕ)) (movable : List Bool) (count : ℕ) (s : Slots) : Type 0 where
  pub least : (at : ℕ) → at < length s.slots.items → slice_index s.slots.items at < length labels
      → IsLeastBelow count (λ c. IsFree movable c × HaveOneLabel labels (slice_index s.slots.items at) c) (slice_index s.slots.items at)
  pub each : (n : ℕ) → n < count → IsFree movable n → IsSettled labels s.size s.slots.items s.firsts.items n ⊎ HasRow s.rest.items n
  pub rest : (r : Keyed (Bor (List ℕ))) → Contains s.rest.items r → IsRest labels movable s.size s.slots.items count r
  pub ahead : (n : ℕ) → n < length labels → count ≤ n → slice_index s.firsts.items n ≡ n
  pub bound : (n : ℕ) → n < length labels → slice_index_or movable n false ≡ false → slice_index s.firsts.items n ≡ n
