-- Items one behind the other, where their places matter: up to the end of the bytes, up to an end of their own, or so many.
use Rattle.std.specs.Prelude.{◌≡◌, ℕ, zero, suc, ◌+◌, ◌<◌, List, [], ◌∷◌, ◌++◌, length, Option, Some, None, Result, Ok, Err, if◌then◌else◌}
use Rattle.dwz_model.specs.declared.fault.Fault.{Fault}
use Rattle.dwz_bytes.specs.Input.{Input, input}
use Rattle.dwz_bytes.specs.Reading.{◌>>=◌}
use Rattle.dwz_def_reading.specs.Trees.{TwoParts}
use Rattle.dwz_def_reading.specs.Units.{is_empty}

-- ---- spelling

-- from a place on the bytes spell x
abbrev pub Spelling : Type 0 → Type 1
Spelling X = X → ℕ → List ℕ → Type 0

-- what begins at a place with these bytes has that fault
abbrev pub FaultAt : Type 1
FaultAt = ℕ → List ℕ → Fault → Type 0

-- the bytes are of two parts, and what they spell is made of what these do
pub record Both {X Y Z : Type 0} (First : Spelling X) (Second : X → Spelling Y) (make : X → Y → Z) (z : Z) (start : ℕ)
    (bytes : List ℕ) : Type 0 where
  pub x : X
  pub y : Y
  pub both : TwoParts (First x) (Second x y) start bytes
  pub made : z ≡ make x y

-- the items in order, and then an end
abbrev pub SpellsRow : {X : Type 0} → Spelling X → (ℕ → List ℕ → Type 0) → Spelling (List X)
SpellsRow Item End [] start bytes = End start bytes
SpellsRow Item End (x ∷ xs) start bytes = TwoParts (Item x) (SpellsRow Item End xs) start bytes

-- no bytes are left
abbrev pub NoneLeft : ℕ → List ℕ → Type 0
NoneLeft start bytes = bytes ≡ []

-- the items in order, and nothing else
abbrev pub SpellsAll : {X : Type 0} → Spelling X → Spelling (List X)
SpellsAll Item xs start bytes = SpellsRow Item NoneLeft xs start bytes

-- ---- faults

-- x stands at the front, and what follows it has the fault
pub record Behind {X : Type 0} (First : Spelling X) (Fails : X → FaultAt) (start : ℕ) (bytes : List ℕ) (f : Fault) : Type 0 where
  pub x : X
  pub front : List ℕ
  pub first : First x start front
  pub rest : List ℕ
  pub parts : bytes ≡ front ++ rest
  pub fails : Fails x (start + length front) rest f

-- some items stand at the front, and what follows them has the fault
abbrev pub BehindItems : {X : Type 0} → Spelling X → FaultAt → FaultAt
BehindItems Item Fails = Behind (SpellsAll Item) (λ xs. Fails)

-- the same, where some bytes follow
abbrev pub WithBytes : FaultAt → FaultAt
WithBytes Fails start bytes f = (0 < length bytes) × Fails start bytes f

-- ---- reading

abbrev pub Reader : Type 0 → Type 0
Reader X = Input → Result (X × Input) Fault

abbrev pub then_make : {X Y Z : Type 0} → (X → Y → Z) → X → Y × Input → Result (Z × Input) Fault
then_make make x y = Ok (make x y.0, y.1)

abbrev pub then_read : {X Y Z : Type 0} → (X → Reader Y) → (X → Y → Z) → X × Input → Result (Z × Input) Fault
then_read second make x = second x.0 x.1 >>= then_make make x.0

-- one thing and then another, and what is made of them
abbrev pub both_at : {X Y Z : Type 0} → Reader X → (X → Reader Y) → (X → Y → Z) → Reader Z
both_at first second make i = first i >>= then_read second make

abbrev pub with_item : {X : Type 0} → X → List X → Result (List X) Fault
with_item x xs = Ok (x ∷ xs)

abbrev pub after_one : {X : Type 0} → (Input → Result (List X) Fault) → X × Input → Result (List X) Fault
after_one read x = read x.1 >>= with_item x.0

-- at most k items, up to the end of the bytes
unfoldable pub all_from : {X : Type 0} → Reader X → ℕ → Input → Result (List X) Fault
all_from item zero i = Ok []
all_from item (suc k) i = if is_empty i.rest then Ok [] else (item i >>= after_one (all_from item k))

-- the items up to the end of the bytes: each takes a byte at least
unfoldable pub all_at : {X : Type 0} → Reader X → Input → Result (List X) Fault
all_at item i = all_from item (length i.rest) i

abbrev pub with_item_before : {X : Type 0} → X → List X × Input → Result (List X × Input) Fault
with_item_before x xs = Ok (x ∷ xs.0, xs.1)

abbrev pub after_row_item : {X : Type 0} → Reader (List X) → Option X × Input → Result (List X × Input) Fault
after_row_item read (None, i) = Ok ([], i)
after_row_item read (Some x, i) = read i >>= with_item_before x

-- fewer than k items, up to their end
unfoldable pub row_items_from : {X : Type 0} → Reader (Option X) → Fault → ℕ → Reader (List X)
row_items_from item stop zero i = Err stop
row_items_from item stop (suc k) i = item i >>= after_row_item (row_items_from item stop k)

-- the items up to their end: each of them, and the end, takes a byte at least, so the fault is never answered
unfoldable pub row_at : {X : Type 0} → Reader (Option X) → Fault → Reader (List X)
row_at item stop i = row_items_from item stop (suc (length i.rest)) i

-- ---- at a place of a section

-- from a place on the bytes of a section spell x, whatever follows
pub record StandsFrom {X : Type 0} (Spells : Spelling X) (section : List ℕ) (place : ℕ) (x : X) : Type 0 where
  pub before : List ℕ
  pub front : List ℕ
  pub after : List ℕ
  pub length_before : length before ≡ place
  pub spelled : Spells x place front
  pub parts : section ≡ before ++ (front ++ after)

abbrev pub value_only : {X : Type 0} → X × Input → Result X Fault
value_only x = Ok x.0

-- what stands at a place
abbrev pub read_from : {X : Type 0} → Reader X → List ℕ → ℕ → Result X Fault
read_from read section place = read (input section place) >>= value_only

-- ---- so many items

abbrev pub SpellsTimes : {X : Type 0} → Spelling X → ℕ → Spelling (List X)
SpellsTimes Item n xs start bytes = (length xs ≡ n) × SpellsAll Item xs start bytes

unfoldable pub times_at : {X : Type 0} → Reader X → ℕ → Reader (List X)
times_at item zero i = Ok ([], i)
times_at item (suc n) i = both_at item (λ _. times_at item n) (λ x xs. x ∷ xs) i
