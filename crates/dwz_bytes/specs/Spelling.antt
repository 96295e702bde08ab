-- How bytes spell numbers.
use Rattle.std.specs.Prelude.{◌≡◌, ℕ, zero, suc, ◌+◌, ◌-◌, ◌*◌, ◌/◌, ◌%◌, ◌^◌, ◌<◌, ◌≤◌, ℤ, pos, negsuc, ◌-ℤ◌, Bool, true, List, [], ◌∷◌}
use Rattle.std.specs.Prelude.{length, nat_lt, if◌then◌else◌}

-- ---- fixed width (DWARF 5, 7.5.5): little-endian

-- the bytes as digits to base 256, the lowest first
abbrev pub le_value : List ℕ → ℕ
le_value [] = 0
le_value (b ∷ bs) = b + 256 * le_value bs

-- these k bytes spell n
pub record SpellsFixed (k : ℕ) (bytes : List ℕ) (n : ℕ) : Type 0 where
  pub len : length bytes ≡ k
  pub value : n ≡ le_value bytes

-- n in k bytes
unfoldable pub le_bytes : ℕ → ℕ → List ℕ
le_bytes zero n = []
le_bytes (suc k) n = n % 256 ∷ le_bytes k (n / 256)

-- ---- LEB128 (DWARF 5, 7.6): groups of seven bits, the lowest first

-- every byte but the last is 128 or more, and the last is below 128
abbrev pub IsGroups : List ℕ → Type 0
IsGroups [] = ⊥
IsGroups (b ∷ []) = b < 128
IsGroups (b ∷ c ∷ bs) = (128 ≤ b) × IsGroups (c ∷ bs)

-- seven bits of each byte, as digits to base 128
abbrev pub groups_value : List ℕ → ℕ
groups_value [] = 0
groups_value (b ∷ bs) = b % 128 + 128 * groups_value bs

abbrev pub last_of : List ℕ → ℕ
last_of [] = 0
last_of (b ∷ []) = b
last_of (b ∷ c ∷ bs) = last_of (c ∷ bs)

-- the same with a sign: where the last byte has the bit of weight 64, less the weight of one more group
abbrev pub signed_value : List ℕ → ℤ
signed_value bytes =
    if nat_lt (last_of bytes) 64 then pos (groups_value bytes) else pos (groups_value bytes) -ℤ pos (128 ^ length bytes)

-- a number that 64 bits hold, and one that 64 bits with a sign hold
abbrev pub fits_u64 : ℕ → Bool
fits_u64 n = nat_lt n (2 ^ 64)

abbrev pub fits_i64 : ℤ → Bool
fits_i64 (pos n) = nat_lt n (2 ^ 63)
fits_i64 (negsuc n) = nat_lt n (2 ^ 63)

-- The bytes spell the number x: they are ten groups at most, x is what they are worth, and x fits.
pub record SpellsLeb {X : Type 0} (worth : List ℕ → X) (fits : X → Bool) (bytes : List ℕ) (x : X) : Type 0 where
  pub groups : IsGroups bytes
  pub len : length bytes ≤ 10
  pub value : x ≡ worth bytes
  pub in_range : fits x ≡ true

-- the bytes spell the unsigned number n
abbrev pub SpellsUleb : List ℕ → ℕ → Type 0
SpellsUleb bytes n = SpellsLeb groups_value fits_u64 bytes n

-- the bytes spell the signed number z
abbrev pub SpellsSleb : List ℕ → ℤ → Type 0
SpellsSleb bytes z = SpellsLeb signed_value fits_i64 bytes z

-- ---- what is written

-- n in k groups: all bytes but the last have the bit of weight 128
unfoldable pub padded : ℕ → ℕ → List ℕ
padded zero n = []
padded (suc zero) n = n % 128 ∷ []
padded (suc (suc k)) n = (n % 128 + 128) ∷ padded (suc k) (n / 128)

-- how many groups a number needs, of k at most
unfoldable pub groups_in : ℕ → ℕ → ℕ
groups_in zero n = 0
groups_in (suc k) n = if nat_lt n 128 then 1 else suc (groups_in k (n / 128))

abbrev pub group_count : ℕ → ℕ
group_count n = groups_in 10 n

-- the shortest spelling of an unsigned number
abbrev pub uleb : ℕ → List ℕ
uleb n = padded (group_count n) n

-- how far a number is from 0, or a negative one from -1
abbrev pub reach : ℤ → ℕ
reach (pos n) = n
reach (negsuc n) = n

-- a number as the k groups that stand for it, the highest with the sign: a negative one is counted from the weight of one
-- more group down
abbrev pub wrapped : ℕ → ℤ → ℕ
wrapped k (pos n) = n
wrapped k (negsuc n) = 128 ^ k - (n + 1)

-- the shortest spelling of a signed number: one bit is needed for the sign
abbrev pub sleb : ℤ → List ℕ
sleb z = let k = group_count (2 * reach z) in padded k (wrapped k z)
