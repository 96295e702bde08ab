-- Reading numbers from left to right, or the fault that is met.
use Rattle.std.specs.Prelude.{◌≡◌, ℕ, ℤ, zero, suc, Bool, List, [], ◌∷◌, length, take, Result, Ok, Err, nat_lt, if◌then◌else◌}
use Rattle.dwz_bytes.specs.declared.error.ByteErr.{ByteErr}
use Rattle.dwz_bytes.specs.declared.error.ByteErr.TheVariants.{Short, Wide}
use Rattle.dwz_bytes.specs.Input.{Input, past}
use Rattle.dwz_bytes.specs.Spelling.{le_value, groups_value, signed_value, fits_u64, fits_i64}

-- first this, then that, unless the first fails
infixl 10 ◌>>=◌
abbrev pub ◌>>=◌ : {A B E : Type 0} → Result A E → (A → Result B E) → Result B E
(Ok x) >>= f = f x
(Err e) >>= f = Err e

-- What a call on a cursor returned and left is what reading gives. After an error the cursor stands where it was.
abbrev pub Gives : {X Y E : Type 0} → (X → Y) → Input → Input → Result X E → Result (Y × Input) E → Type 0
Gives view old new (Ok x) read = read ≡ Ok (view x, new)
Gives view old new (Err e) read = (read ≡ Err e) × (new ≡ old)

-- n bytes
abbrev pub take_at : ℕ → Input → Result (List ℕ × Input) ByteErr
take_at n i = if nat_lt (length i.rest) n then Err (Short i.at) else Ok (take n i.rest, past n i)

-- a number of k bytes
abbrev pub fixed_at : ℕ → Input → Result (ℕ × Input) ByteErr
fixed_at k i = if nat_lt (length i.rest) k then Err (Short i.at) else Ok (le_value (take k i.rest), past k i)

-- the bytes of a LEB128 number that begins at start: up to the first below 128, k at most
unfoldable pub groups_at : ℕ → ℕ → List ℕ → Result (List ℕ) ByteErr
groups_at start zero bytes = Err (Wide start)
groups_at start (suc k) [] = Err (Short start)
groups_at start (suc k) (b ∷ rest) = if nat_lt b 128 then Ok (b ∷ []) else (do
  others ← groups_at start k rest
  Ok (b ∷ others))

-- a LEB128 number: what its bytes are worth, where that fits
abbrev pub leb_at : {X : Type 0} → (List ℕ → X) → (X → Bool) → Input → Result (X × Input) ByteErr
leb_at worth fits i = do
  bytes ← groups_at i.at 10 i.rest
  if fits (worth bytes) then Ok (worth bytes, past (length bytes) i) else Err (Wide i.at)

unfoldable pub uleb_at : Input → Result (ℕ × Input) ByteErr
uleb_at i = leb_at groups_value fits_u64 i

unfoldable pub sleb_at : Input → Result (ℤ × Input) ByteErr
sleb_at i = leb_at signed_value fits_i64 i
