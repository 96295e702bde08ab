-- Signed numbers written in groups.
use Rattle.std.proofs.Common.{◌≡◌, ℕ, zero, suc, ◌+◌, ◌*◌, ◌^◌, ◌<◌, ◌≤◌, ◌-◌, List, [], ◌∷◌, length, take, refl, sym, ap, ◌∙◌, false, true, arith}
use Rattle.std.specs.Prelude.{ℤ, pos, negsuc, ◌-ℤ◌}
use Rattle.std.proofs.lemmas.Bool.{le-ltb, lt-ltb, ltb-true, cases_lt}
use Rattle.std.proofs.lemmas.Int.{ints}
use mir.Val.{to_z, of_z}
use Rattle.std.specs.Int.{w64}
use Rattle.std.proofs.Math.Logic.{inl, inr}
use Rattle.std.proofs.Math.Nat.{pow-suc}
use Rattle.dwz_bytes.specs.declared.groups.Groups.{Groups}
use Rattle.dwz_bytes.specs.declared.error.ByteErr.{ByteErr}
use Rattle.std.specs.Prelude.{Result}
use Rattle.std.proofs.lemmas.Grind.{common_steps}
use Rattle.dwz_bytes.specs.Groups.{AreFirst}
use Rattle.dwz_bytes.specs.Spelling.{IsGroups, SpellsLeb, fits_i64, group_count, groups_value, last_of, padded, reach, signed_value, sleb, wrapped}
use Rattle.dwz_bytes.proofs.GroupLemmas.{groups_below}
use Rattle.dwz_bytes.proofs.PaddedLemmas.{Suffices, below_ten, count_least, count_suffices, last_high, last_low, padded_groups, padded_len, padded_value, some_groups}

pub below_zero : (w m n : ℕ) → w + (n + 1) ≡ m → pos w -ℤ pos m ≡ negsuc n
below_zero w m n e = omega (arith, ints)

pub low_value : (bytes : List ℕ) → last_of bytes < 64 → signed_value bytes ≡ pos (groups_value bytes)
low_value bytes lt = rw (lt-ltb (last_of bytes) 64 lt) refl

pub high_value : (bytes : List ℕ) → 64 ≤ last_of bytes → signed_value bytes ≡ pos (groups_value bytes) -ℤ pos (128 ^ length bytes)
high_value bytes le = rw (le-ltb (last_of bytes) 64 le) refl

pub reach_fits : (z : ℤ) → fits_i64 z ≡ true → reach z < 2 ^ 63
reach_fits (pos n) e = ltb-true _ _ e
reach_fits (negsuc n) e = ltb-true _ _ e

signed_spelled : (count : ℕ) (z : ℤ) → Suffices 10 (2 * reach z) count → fits_i64 z ≡ true → SpellsLeb signed_value fits_i64 (padded count (wrapped count z)) z
signed_spelled zero z s e = absurd (omega (arith, s.some))
signed_spelled (suc k) (pos n) s e =
    let half : n < 64 * 128 ^ k = omega (arith, s.holds, pow-suc 128 k) in
    let whole : n < 128 ^ suc k = omega (arith, s.holds) in
    record {
      groups = padded_groups k n;
      len = rw (padded_len (suc k) n) s.few;
      value = sym (low_value _ (last_low k n half) ∙ ap pos (padded_value k n whole));
      in_range = e;
    }
signed_spelled (suc k) (negsuc n) s e =
    let half : n < 64 * 128 ^ k = omega (arith, s.holds, pow-suc 128 k) in
    let w = 128 ^ suc k - (n + 1) in
    let back : w + (n + 1) ≡ 128 ^ suc k = omega (arith, s.holds) in
    let whole : w < 128 ^ suc k = omega (arith, back) in
    let high : 64 * 128 ^ k ≤ w = omega (arith, half, pow-suc 128 k) in
    let value : signed_value (padded (suc k) w) ≡ pos w -ℤ pos (128 ^ suc k) = rw (high_value (padded (suc k) w) (last_high k w whole high), padded_value k w whole, padded_len (suc k) w) refl in
    record {
      groups = padded_groups k w;
      len = rw (padded_len (suc k) w) s.few;
      value = sym (value ∙ below_zero w (128 ^ suc k) n back);
      in_range = e;
    }

twice_fits : (n : ℕ) → n < 2 ^ 63 → 2 * n < 2 ^ 64
twice_fits n lt = omega (arith, lt)

pub sleb_suffices : (z : ℤ) → fits_i64 z ≡ true → Suffices 10 (2 * reach z) (group_count (2 * reach z))
sleb_suffices z e = count_suffices 9 (2 * reach z) (below_ten (2 * reach z) (twice_fits (reach z) (reach_fits z e)))

pub sleb_spells : (z : ℤ) → fits_i64 z ≡ true → SpellsLeb signed_value fits_i64 (sleb z) z
sleb_spells z e = signed_spelled (group_count (2 * reach z)) z (sleb_suffices z e) e

-- ---- no spelling is shorter

-- the groups of the number are at most half of the weight of one more, or at least
pub low_bound : (bytes : List ℕ) → IsGroups bytes → last_of bytes < 64 → 2 * groups_value bytes < 128 ^ length bytes
low_bound [] is lt = absurd is
low_bound (b ∷ []) is lt = omega arith
low_bound (b ∷ c ∷ bytes) is lt =
    let rest = low_bound (c ∷ bytes) is.1 lt in
    omega (arith, rest, pow-suc 128 (length (c ∷ bytes)), pow-suc 128 (length bytes))

pub high_bound : (bytes : List ℕ) → IsGroups bytes → 64 ≤ last_of bytes → 128 ^ length bytes ≤ 2 * groups_value bytes
high_bound [] is le = absurd is
high_bound (b ∷ []) is le = omega arith
high_bound (b ∷ c ∷ bytes) is le =
    let rest = high_bound (c ∷ bytes) is.1 le in
    omega (arith, rest, pow-suc 128 (length (c ∷ bytes)), pow-suc 128 (length bytes))

reach_bound : (bytes : List ℕ) → IsGroups bytes → 2 * reach (signed_value bytes) < 128 ^ length bytes
reach_bound bytes is =
    elim (cases_lt (last_of bytes) 64) [
      | inl low ↦ rw (low_value bytes low) (low_bound bytes is low)
      | inr high ↦
          let less = groups_below bytes in
          let half = high_bound bytes is high in
          let n = 128 ^ length bytes - (groups_value bytes + 1) in
          let back : groups_value bytes + (n + 1) ≡ 128 ^ length bytes = omega (arith, less) in
          rw (high_value bytes high, below_zero (groups_value bytes) (128 ^ length bytes) n back) (omega (arith, half, back))
    ]

pub sleb_shortest : (z : ℤ) (bytes : List ℕ) → SpellsLeb signed_value fits_i64 bytes z → length (sleb z) ≤ length bytes
sleb_shortest z bytes is =
    let less : 2 * reach z < 128 ^ length bytes = rw is.value (reach_bound bytes is.groups) in
    rw (padded_len (group_count (2 * reach z)) (wrapped (group_count (2 * reach z)) z)) (count_least 10 (2 * reach z) (length bytes) less (some_groups bytes is.groups))

-- ---- the number of the groups that were found

pub low_reach : (bytes : List ℕ) (g : Groups) (found : Result (List ℕ) ByteErr) (reach : ℕ) → AreFirst bytes g found → g.last < 64 → reach ≡ g.value → pos reach ≡ signed_value (take g.len bytes)
low_reach bytes g found reach is low e =
    let last : last_of (take g.len bytes) < 64 = omega (arith, is.last) in
    let value : reach ≡ groups_value (take g.len bytes) = e ∙ is.value in
    rw (low_value (take g.len bytes) last) (ap pos value)

pub high_reach : (bytes : List ℕ) (g : Groups) (found : Result (List ℕ) ByteErr) (reach : ℕ) → AreFirst bytes g found → 64 ≤ g.last → reach ≡ g.scale - g.value - 1
    → negsuc reach ≡ signed_value (take g.len bytes)
high_reach bytes g found reach is high e =
    let last : 64 ≤ last_of (take g.len bytes) = omega (arith, is.last) in
    let within = is.within in
    let len : length (take g.len bytes) ≡ g.len = grind (arith, common_steps) in
    let scale : g.scale ≡ 128 ^ length (take g.len bytes) = is.scale ∙ ap (λ (n : ℕ). 128 ^ n) (sym len) in
    let back : groups_value (take g.len bytes) + (reach + 1) ≡ 128 ^ length (take g.len bytes) = omega (arith, e, is.value, scale, is.small) in
    rw (high_value (take g.len bytes) last) (sym (below_zero _ _ reach back))

-- which number fits
pub pos_fits : (n : ℕ) → n ≤ 9223372036854775807 → fits_i64 (pos n) ≡ true
pos_fits n le = lt-ltb _ _ (omega arith)

pub negsuc_fits : (n : ℕ) → n ≤ 9223372036854775807 → fits_i64 (negsuc n) ≡ true
negsuc_fits n le = lt-ltb _ _ (omega arith)

pub pos_too_big : (n : ℕ) → 9223372036854775807 < n → fits_i64 (pos n) ≡ false
pos_too_big n lt = le-ltb _ _ (omega arith)

pub negsuc_too_big : (n : ℕ) → 9223372036854775807 < n → fits_i64 (negsuc n) ≡ false
negsuc_too_big n lt = le-ltb _ _ (omega arith)

-- what the code computes of it
pub negsuc_is : (n : ℕ) → n ≤ 9223372036854775807 → to_z w64 (of_z w64 (negsuc 0 -ℤ to_z w64 n)) ≡ negsuc n
negsuc_is n le = omega (arith, ints)

pub pos_is : (n : ℕ) → n ≤ 9223372036854775807 → to_z w64 n ≡ pos n
pos_is n le = omega (arith, ints)
