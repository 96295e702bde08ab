-- What units take from a finished common file, by rows: of units and of partial units, by their numbers.
use Rattle.std.specs.Prelude.{◌≡◌, ◌↔◌, ℕ, zero, suc, ◌<◌, ◌^◌, List, [], length, slice_index, slice_index_or}
use Rattle.dwz_model.specs.Lists.{In, Rising}
use Rattle.dwz_takes.specs.declared.rows.Rows.{Rows}

-- the list with that number
abbrev pub list_at : List (List ℕ) → ℕ → List ℕ
list_at lists n = slice_index_or lists n []

-- the class of a top: two tops have the same exactly if they are alike
abbrev pub class_of : Rows → ℕ → ℕ
class_of rows t = slice_index rows.classes t

-- ---- what a unit takes

-- a top of the unit that may move has that class
abbrev pub HasClass : Rows → ℕ → ℕ → Type 0
HasClass rows u k = (t : ℕ) × In t (list_at rows.unit_tops u) × (class_of rows t ≡ k)

-- The unit can take the partial unit by itself: it has a top, and the unit has the names of each of its spaces, and one like each of its
-- tops.
pub record FitsIn (rows : Rows) (u p : ℕ) : Type 0 where
  pub some : (c : ℕ) × In c (list_at rows.part_tops p)
  pub spaces : (n : ℕ) → In n (list_at rows.part_names p) → In n (list_at rows.unit_names u)
  pub tops : (c : ℕ) → In c (list_at rows.part_tops p) → HasClass rows u (class_of rows c)

-- so it can all partial units to which chains of at most so many references lead from that one
unfoldable pub FitsAlong : Rows → ℕ → ℕ → ℕ → Type 0
FitsAlong rows zero u p = FitsIn rows u p
FitsAlong rows (suc k) u p = FitsAlong rows k u p × ((q : ℕ) → In q (list_at rows.part_targets p) → FitsAlong rows k u q)

-- it takes each partial unit that it can take along every chain
abbrev pub TakesPart : Rows → ℕ → ℕ → Type 0
TakesPart rows u p = (k : ℕ) → FitsAlong rows k u p

-- just these it takes, in ascending order
pub record AreTaken (rows : Rows) (u : ℕ) (parts : List ℕ) : Type 0 where
  pub each : (p : ℕ) → In p parts ↔ TakesPart rows u p
  pub rising : Rising parts

-- for each unit those that it takes
pub record AreTakes (rows : Rows) (takes : List (List ℕ)) : Type 0 where
  pub len : length takes ≡ length rows.unit_tops
  pub each : (u p : ℕ) → In p (list_at takes u) ↔ TakesPart rows u p
  pub rising : (u : ℕ) → Rising (list_at takes u)

-- ---- what rows have to keep

-- each number of the lists is below n
abbrev pub AreBelow : ℕ → List (List ℕ) → Type 0
AreBelow n lists = (k x : ℕ) → In x (list_at lists k) → x < n

-- Classes, tops, names and partial units are told by their numbers, and there is a list of each kind for each unit and each partial unit.
pub record AreRows (rows : Rows) : Type 0 where
  pub classes : (k : ℕ) → In k rows.classes → k < length rows.classes
  pub unit_tops : AreBelow (length rows.classes) rows.unit_tops
  pub unit_names : AreBelow rows.names rows.unit_names
  pub part_tops : AreBelow (length rows.classes) rows.part_tops
  pub part_names : AreBelow rows.names rows.part_names
  pub part_targets : AreBelow (length rows.part_tops) rows.part_targets
  pub units : length rows.unit_names ≡ length rows.unit_tops
  pub names : length rows.part_names ≡ length rows.part_tops
  pub targets : length rows.part_targets ≡ length rows.part_tops
  pub few_tops : length rows.classes < 2 ^ 32
  pub few_units : length rows.unit_tops < 2 ^ 32
  pub few_parts : length rows.part_tops < 2 ^ 32
