-- Items one behind the other, up to an end.
use Rattle.std.specs.Prelude.{◌≡◌, ◌⊎◌, ℕ, zero, suc, Bool, true, false, List, [], ◌∷◌, ◌++◌, length, Option, Some, None, Result, Ok, Err}
use Rattle.std.specs.Prelude.{◌==◌, if◌then◌else◌}
use Rattle.dwz_bytes.specs.Input.{Input}
use Rattle.dwz_bytes.specs.Reading.{◌>>=◌}
use Rattle.dwz_def_reading.specs.Parts.{Then}

-- The bytes are the items in order, each spelled as it may be behind those before it, and then the end.
abbrev pub SpellsItems : {X : Type 0} → (List X → List ℕ → X → Type 0) → (List ℕ → Type 0) → List X → List X → List ℕ → Type 0
SpellsItems {X} Item End earlier [] = End
SpellsItems {X} Item End earlier (x ∷ items) = Then (λ bytes. Item earlier bytes x) (SpellsItems Item End (earlier ++ x ∷ []) items)

-- neither an item, behind those before it, nor the end stands at the front of the bytes
pub record NothingStands {X : Type 0} (Item : List X → List ℕ → X → Type 0) (End : List ℕ → Type 0) (earlier : List X)
    (bytes : List ℕ) : Type 0 where
  pub no_item : (x : X) (front rest : List ℕ) → Item earlier front x → bytes ≡ front ++ rest → ⊥
  pub no_end : (front rest : List ℕ) → End front → bytes ≡ front ++ rest → ⊥

-- some items stand at the front of the bytes, and behind them, so many bytes on, neither an item nor the end does
pub record BreaksOff {X : Type 0} (Item : List X → List ℕ → X → Type 0) (End : List ℕ → Type 0) (bytes : List ℕ) (behind : ℕ) : Type 0 where
  pub items : List X
  pub front : List ℕ
  pub rest : List ℕ
  pub spelled : SpellsItems Item (λ b. b ≡ []) [] items front
  pub parts : bytes ≡ front ++ rest
  pub place : behind ≡ length front
  pub nothing : NothingStands Item End items rest

-- the items from an input on, those before it among them, where item reads one or the end
abbrev pub after_item : {X E : Type 0} → (List X → Input → Result (List X × Input) E) → List X → Option X × Input
    → Result (List X × Input) E
after_item read earlier (None, j) = Ok (earlier, j)
after_item read earlier (Some x, j) = read (earlier ++ x ∷ []) j

unfoldable pub items_from : {X E : Type 0} → (List X → Input → Result (Option X × Input) E) → E → ℕ → List X → Input
    → Result (List X × Input) E
items_from item stop zero earlier i = Err stop
items_from item stop (suc k) earlier i = item earlier i >>= after_item (items_from item stop k) earlier

-- each item takes a byte at least
unfoldable pub items_at : {X E : Type 0} → (List X → Input → Result (Option X × Input) E) → E → List X → Input → Result (List X × Input) E
items_at item stop earlier i = items_from item stop (suc (length i.rest)) earlier i
