-- Shapes in slots: each stands in one of 16, from the one that its hash gives on, or others stand in all of these.
use Rattle.std.specs.Prelude.{◌≡◌, ◌⊎◌, ℕ, ◌+◌, ◌-◌, ◌*◌, ◌/◌, ◌%◌, ◌^◌, ◌<◌, ◌≤◌, All, List, Some, None, bit_xor, fold, length, map, slice_get, slice_index}
use Rattle.std.specs.BTreeMap.{BTreeMap}
use Rattle.std.specs.Global.{Vec}
use Rattle.std.specs.Int.{cast_unsigned, w64}
use Rattle.dwz_model.specs.declared.place.Pair.{Pair}
use Rattle.dwz_def_reading.specs.Abbrevs.{children_byte}
use Rattle.dwz_def_encoding.specs.Writing.{DeclarationShape, code_in}
use Rattle.dwz_layout.specs.declared.slots.Held.{Held}
use Rattle.dwz_layout.specs.declared.slots.Held.TheVariants.{Nothing, Other, Same}
use Rattle.dwz_layout.specs.declared.slots.Slots.{Slots}
use Rattle.dwz_layout.specs.declared.slots.Spot.{Spot}
use Rattle.dwz_layout.specs.declared.slots.Spot.TheVariants.{At, Crowded, Free}
use Rattle.dwz_layout.specs.Keys.{HasBits, key_of, mixed}
use Rattle.dwz_layout.specs.Maps.{look}

-- the constant, the form and the name of a pair beside each other
abbrev pub pair_word : Pair → ℕ
pair_word p = bit_xor (bit_xor ((cast_unsigned w64 p.constant * 0x1_0000_0000) % 2 ^ 64) ((p.form * 0x1_0000) % 2 ^ 64)) p.name

abbrev pub mixed_pair : ℕ → Pair → ℕ
mixed_pair hash p = mixed hash (pair_word p)

-- The slot from which on a shape is looked for: the highest 11 bits of a hash. Any function would do for it.
unfoldable pub home_of : DeclarationShape → ℕ
home_of s = fold mixed_pair (mixed s.tag (children_byte s.children)) s.pairs / 0x0020_0000_0000_0000

-- the place that a number stands for
abbrev pub place_by : ℕ → ℕ → ℕ
place_by base number = (number + (2 ^ 64 - base)) % 2 ^ 64

-- the places that slots hold
abbrev pub places_in : Slots → List ℕ
places_in s = map (place_by s.base) s.numbers.items

-- the slot holds the place of another shape
pub record HoldsOther (slots : List ℕ) (shapes : List DeclarationShape) (s : DeclarationShape) (n : ℕ) : Type 0 where
  pub taken : slice_index slots n < length shapes
  pub other : slice_get shapes (slice_index slots n) ≡ Some s → ⊥

-- so many slots from one on, as far as there are slots, hold other shapes
abbrev pub HoldOthers : List ℕ → List DeclarationShape → DeclarationShape → ℕ → ℕ → Type 0
HoldOthers slots shapes s start count = (step : ℕ) → step < count → start + step < length slots → HoldsOther slots shapes s (start + step)

-- the slot holds no shape; it is less than 16 behind the first one, and those between hold others
pub record IsFree (slots : List ℕ) (shapes : List DeclarationShape) (s : DeclarationShape) (start n : ℕ) : Type 0 where
  pub steps : ℕ
  pub few : steps < 16
  pub place : n ≡ start + steps
  pub before : HoldOthers slots shapes s start steps
  pub inside : n < length slots
  pub free : length shapes ≤ slice_index slots n

-- what a slot holds
abbrev pub IsHeld : List ℕ → List DeclarationShape → DeclarationShape → ℕ → Held → Type 0
IsHeld slots shapes s n (Same place) = (slice_get shapes place ≡ Some s) × (place + 1 < 2 ^ 64)
IsHeld slots shapes s n Other = n < length slots → HoldsOther slots shapes s n
IsHeld slots shapes s n Nothing = (n < length slots) × (length shapes ≤ slice_index slots n)

-- where a shape is found, or may stand
abbrev pub IsSpot : List ℕ → List DeclarationShape → DeclarationShape → ℕ → Spot → Type 0
IsSpot slots shapes s start (At place) = (slice_get shapes place ≡ Some s) × (place + 1 < 2 ^ 64)
IsSpot slots shapes s start (Free n) = IsFree slots shapes s start n
IsSpot slots shapes s start Crowded = HoldOthers slots shapes s start 16

-- The code of each shape is what its own place says: each stands once. Where a slot is free for a shape, it isn't there; one in whose slots
-- others stand is found under its key, under which nothing else is found.
pub record AreFound (codes : BTreeMap (Vec ℕ) ℕ) (slots : List ℕ) (shapes : List DeclarationShape) : Type 0 where
  pub own : (place : ℕ) (s : DeclarationShape) → slice_get shapes place ≡ Some s → code_in 1 shapes s ≡ Some (place + 1)
  pub free : (s : DeclarationShape) (n : ℕ) → IsFree slots shapes s (home_of s) n → code_in 1 shapes s ≡ None
  pub crowded : (s : DeclarationShape) → All HasBits s.pairs → HoldOthers slots shapes s (home_of s) 16 → look codes (key_of s) ≡ code_in 1 shapes s
  pub kept : (s : DeclarationShape) → All HasBits s.pairs → (look codes (key_of s) ≡ None) ⊎ (look codes (key_of s) ≡ code_in 1 shapes s)
