-- Where no number is spelled, and what holds between spelling, reading and writing.
use Rattle.std.specs.Prelude.{◌≡◌, ℕ, ◌+◌, ◌<◌, ◌≤◌, ◌⊎◌, ◌↔◌, Bool, false, List, [], ◌∷◌, ◌++◌, length, take, Result, Ok, Err}
use Rattle.dwz_bytes.specs.declared.error.ByteErr.{ByteErr}
use Rattle.dwz_bytes.specs.declared.error.ByteErr.TheVariants.{Short, Wide}
use Rattle.dwz_bytes.specs.Input.{Input}
use Rattle.dwz_bytes.specs.Spelling.{IsGroups}

-- each byte says that more follow
abbrev pub GoOn : List ℕ → Type 0
GoOn [] = Unit {0}
GoOn (b ∷ bs) = (128 ≤ b) × GoOn bs

-- the bytes end, fewer than ten of them, before one below 128
abbrev pub IsCutShort : List ℕ → Type 0
IsCutShort bytes = (length bytes < 10) × GoOn bytes

-- the first ten bytes all say that more follow
abbrev pub IsOverlong : List ℕ → Type 0
IsOverlong bytes = (10 ≤ length bytes) × GoOn (take 10 bytes)

-- groups with an end stand at the front, and their number doesn't fit
pub record HasTooManyBits {X : Type 0} (worth : List ℕ → X) (fits : X → Bool) (bytes : List ℕ) : Type 0 where
  pub front : List ℕ
  pub rest : List ℕ
  pub groups : IsGroups front
  pub len : length front ≤ 10
  pub too_big : fits (worth front) ≡ false
  pub parts : bytes ≡ front ++ rest

-- what was read from i to j is spelled by the bytes between them
abbrev pub IsReadNumber : {X : Type 0} → (List ℕ → X → Type 0) → Input → Input → X → Type 0
IsReadNumber Spells i j x = (front : List ℕ) × Spells front x × (i.rest ≡ front ++ j.rest) × (j.at ≡ i.at + length front)

-- each number that is read is spelled
abbrev pub ReadNumberIsSpelled : {X : Type 0} → (List ℕ → X → Type 0) → (Input → Result (X × Input) ByteErr) → Type 0
ReadNumberIsSpelled {X} Spells read = (i j : Input) (x : X) → read i ≡ Ok (x, j) → IsReadNumber Spells i j x

-- each number that is spelled is read, whatever follows it
abbrev pub SpelledNumberIsRead : {X : Type 0} → (List ℕ → X → Type 0) → (Input → Result (X × Input) ByteErr) → Type 0
SpelledNumberIsRead {X} Spells read = (at : ℕ) (x : X) (front rest : List ℕ) → Spells front x → read (record {
  at = at;
  rest = front
      ++ rest;
})
    ≡ Ok (x, record { at = at + length front; rest = rest })

-- no spelling begins another, and none spells two numbers
abbrev pub One : {X : Type 0} → (List ℕ → X → Type 0) → Type 0
One {X} Spells = (a b more others : List ℕ) (x y : X) → Spells a x → Spells b y → a ++ more ≡ b ++ others → (a ≡ b) × (x ≡ y)

-- reading meets the end of the bytes exactly where they are cut short
abbrev pub IsShortAt : {X : Type 0} → (List ℕ → Type 0) → (Input → Result (X × Input) ByteErr) → Type 0
IsShortAt Cut read = (i : Input) (at : ℕ) → (read i ≡ Err (Short at)) ↔ ((at ≡ i.at) × Cut i.rest)

-- reading meets a number that is too wide exactly where it has more than ten bytes or too many bits
abbrev pub IsWideAt : {X : Type 0} → (List ℕ → X) → (X → Bool) → (Input → Result (X × Input) ByteErr) → Type 0
IsWideAt worth fits read = (i : Input) (at : ℕ) → (read i ≡ Err (Wide at)) ↔
    ((at ≡ i.at) × (IsOverlong i.rest ⊎ HasTooManyBits worth fits i.rest))
