-- Numbers written in groups.
use Rattle.std.proofs.Common.{◌≡◌, ℕ, zero, suc, ◌+◌, ◌*◌, ◌/◌, ◌%◌, ◌^◌, ◌<◌, ◌≤◌, ◌-◌, List, [], ◌∷◌, ◌++◌, length, take, set, refl, sym, subst, ◌∙◌, ◌⊎◌, arith, append_assoc, append-nil, Bool}
use Rattle.std.proofs.Common.{cond, true, false, eqb, eqb-true}
use Rattle.std.proofs.lemmas.Bool.{le-ltb, lt-ltb, cases_lt}
use Rattle.std.proofs.Math.Logic.{inl, inr}
use Rattle.std.proofs.lemmas.Grind.{common_steps}
use Rattle.std.proofs.Math.Nat.{pow-suc}
use Rattle.dwz_bytes.specs.Spelling.{IsGroups, SpellsLeb, fits_u64, group_count, groups_in, groups_value, last_of, padded, uleb}
use Rattle.dwz_bytes.proofs.GroupLemmas.{groups_below, more}

-- ---- groups to a given width

pub padded_len : (k n : ℕ) → length (padded k n) ≡ k
unfolding padded
padded_len zero n = refl
padded_len (suc zero) n = refl
padded_len (suc (suc k)) n = let rest = padded_len (suc k) (n / 128) in omega arith

pub padded_groups : (k n : ℕ) → IsGroups (padded (suc k) n)
unfolding padded
padded_groups zero n = omega arith
padded_groups (suc k) n = more (n % 128 + 128) (padded (suc k) (n / 128)) (omega arith) (padded_groups k (n / 128))

pub quotient : (k n : ℕ) → n < 128 ^ suc k → n / 128 < 128 ^ k
quotient k n lt = omega (arith, lt, pow-suc 128 k)

pub padded_value : (k n : ℕ) → n < 128 ^ suc k → groups_value (padded (suc k) n) ≡ n
unfolding padded
padded_value zero n lt = let low : n < 128 = omega (arith, lt) in omega arith
padded_value (suc k) n lt = let rest = padded_value k (n / 128) (quotient (suc k) n lt) in omega (arith, rest)

last_of-cons : (b : ℕ) (bytes : List ℕ) → IsGroups bytes → last_of (b ∷ bytes) ≡ last_of bytes
last_of-cons b [] is = absurd is
last_of-cons b (c ∷ bytes) is = refl

-- the bit of weight 64 in the last byte is the highest of the number
pub last_low : (k n : ℕ) → n < 64 * 128 ^ k → last_of (padded (suc k) n) < 64
unfolding padded
last_low zero n lt = omega arith
last_low (suc k) n lt =
    let less : n / 128 < 64 * 128 ^ k = omega (arith, lt, pow-suc 128 k) in
    rw (last_of-cons (n % 128 + 128) (padded (suc k) (n / 128)) (padded_groups k (n / 128))) (last_low k (n / 128) less)

pub last_high : (k n : ℕ) → n < 128 ^ suc k → 64 * 128 ^ k ≤ n → 64 ≤ last_of (padded (suc k) n)
unfolding padded
last_high zero n lt le = let low : n < 128 = omega (arith, lt) in omega arith
last_high (suc k) n lt le =
    let at_least : 64 * 128 ^ k ≤ n / 128 = omega (arith, le, pow-suc 128 k) in
    rw (last_of-cons (n % 128 + 128) (padded (suc k) (n / 128)) (padded_groups k (n / 128))) (last_high k (n / 128) (quotient (suc k) n lt) at_least)

-- ---- how many groups

pub one_more : (k n : ℕ) → 128 ≤ n → groups_in (suc k) n ≡ suc (groups_in k (n / 128))
unfolding groups_in
one_more k n le = rw (le-ltb n 128 le) refl

pub only_one : (k n : ℕ) → n < 128 → groups_in (suc k) n ≡ 1
unfolding groups_in
only_one k n lt = rw (lt-ltb n 128 lt) refl

pub record Suffices (k n count : ℕ) : Type 0 where
  pub some : 0 < count
  pub few : count ≤ k
  pub holds : n < 128 ^ count

pub count_suffices : (k n : ℕ) → n < 128 ^ suc k → Suffices (suc k) n (groups_in (suc k) n)
count_suffices zero n lt = let low : n < 128 = omega (arith, lt) in rw (only_one 0 n low) (record { some = omega arith; few = omega arith; holds = omega arith })
count_suffices (suc k) n lt =
    elim (cases_lt n 128) [
      | inl low ↦ rw (only_one (suc k) n low) (record { some = omega arith; few = omega arith; holds = omega arith })
      | inr high ↦
          let rest = count_suffices k (n / 128) (quotient (suc k) n lt) in
          let weight = pow-suc 128 (groups_in (suc k) (n / 128)) in
          rw (one_more (suc k) n high) (record { some = omega arith; few = omega (arith, rest.few); holds = omega (arith, rest.holds, weight) })
    ]

pub count_least : (k n j : ℕ) → n < 128 ^ j → 0 < j → groups_in k n ≤ j
unfolding groups_in
count_least zero n j lt some = omega arith
count_least (suc k) n zero lt some = absurd (omega arith)
count_least (suc k) n (suc j) lt some =
    elim (cases_lt n 128) [
      | inl low ↦ rw (only_one k n low) (omega arith)
      | inr high ↦
          let less = quotient j n lt in
          elim (cases_lt 0 j) [
            | inl at_least ↦ rw (one_more k n high) (let rest = count_least k (n / 128) j less at_least in omega arith)
            | inr none ↦ let is : j ≡ 0 = omega arith in absurd (let low : n / 128 < 128 ^ 0 = subst (λ (m : ℕ). n / 128 < 128 ^ m) is less in omega (arith, low))
          ]
    ]

-- ---- unsigned numbers

pub below_ten : (n : ℕ) → n < 2 ^ 64 → n < 128 ^ 10
below_ten n lt = omega (arith, lt)

spelled : (count k n : ℕ) → Suffices k n count → k ≤ 10 → n < 2 ^ 64 → SpellsLeb groups_value fits_u64 (padded count n) n
spelled zero k n s few lt = absurd (omega (arith, s.some))
spelled (suc j) k n s few lt = record {
  groups = padded_groups j n;
  len = rw (padded_len (suc j) n) (omega (arith, s.few));
  value = sym (padded_value j n s.holds);
  in_range = lt-ltb n (2 ^ 64) lt;
}

pub padded_spells : (k n : ℕ) → 0 < k → k ≤ 10 → n < 128 ^ k → n < 2 ^ 64 → SpellsLeb groups_value fits_u64 (padded k n) n
padded_spells k n some few holds lt = spelled k k n (record { some = some; few = omega arith; holds = holds }) few lt

pub uleb_spells : (n : ℕ) → n < 2 ^ 64 → SpellsLeb groups_value fits_u64 (uleb n) n
uleb_spells n lt = spelled (group_count n) 10 n (count_suffices 9 n (below_ten n lt)) (omega arith) lt

pub some_groups : (bytes : List ℕ) → IsGroups bytes → 0 < length bytes
some_groups [] is = absurd is
some_groups (b ∷ bytes) is = omega arith

pub uleb_shortest : (n : ℕ) (bytes : List ℕ) → SpellsLeb groups_value fits_u64 bytes n → length (uleb n) ≤ length bytes
uleb_shortest n bytes is =
    let less : n < 128 ^ length bytes = rw is.value (groups_below bytes) in
    rw (padded_len (group_count n) n) (count_least 10 n (length bytes) less (some_groups bytes is.groups))

-- ---- the loop that writes them

-- one group at i, and the others behind it
fills_on : (i len n : ℕ) (bytes total : List ℕ) → i + 1 < len → len ≡ length bytes → take i bytes ++ padded (len - i) n ≡ total
    → take (i + 1) (set bytes i (n % 128 + 128)) ++ padded (len - (i + 1)) (n / 128) ≡ total
unfolding padded
fills_on i len n bytes total lt is so_far =
    let k : len - i ≡ suc (suc (len - (i + 2))) = omega arith in
    let j : len - (i + 1) ≡ suc (len - (i + 2)) = omega arith in
    let grown : take (i + 1) (set bytes i (n % 128 + 128)) ≡ take i bytes ++ (n % 128 + 128) ∷ [] = grind (arith, common_steps) in
    let old : take i bytes ++ (n % 128 + 128) ∷ padded (suc (len - (i + 2))) (n / 128) ≡ total = rw k at so_far in
    rw (grown, j) (append_assoc (take i bytes) ((n % 128 + 128) ∷ []) (padded (suc (len - (i + 2))) (n / 128)) ∙ old)

-- the last group
fills_last : (i len n : ℕ) (bytes total : List ℕ) → i + 1 ≡ len → len ≡ length bytes → take i bytes ++ padded (len - i) n ≡ total
    → take (i + 1) (set bytes i (n % 128 + 0)) ++ padded (len - (i + 1)) (n / 128) ≡ total
unfolding padded
fills_last i len n bytes total last is so_far =
    let k : len - i ≡ suc zero = omega arith in
    let j : len - (i + 1) ≡ zero = omega arith in
    let none : n % 128 + 0 ≡ n % 128 = omega arith in
    let grown : take (i + 1) (set bytes i (n % 128)) ≡ take i bytes ++ n % 128 ∷ [] = grind (arith, common_steps) in
    let old : take i bytes ++ n % 128 ∷ [] ≡ total = rw k at so_far in
    rw (none, grown, j) (append_assoc (take i bytes) (n % 128 ∷ []) [] ∙ old)

pub fills_step : (i len n more : ℕ) (bytes total : List ℕ) → i < len → ((i + 1 < len) × (more ≡ 128)) ⊎ ((len ≤ i + 1) × (more ≡ 0)) → len ≡ length bytes
    → take i bytes ++ padded (len - i) n ≡ total → take (i + 1) (set bytes i (n % 128 + more)) ++ padded (len - (i + 1)) (n / 128) ≡ total
fills_step i len n more bytes total lt (inl h) is so_far = rw h.1 (fills_on i len n bytes total h.0 is so_far)
fills_step i len n more bytes total lt (inr h) is so_far = rw h.1 (fills_last i len n bytes total (omega arith) is so_far)

-- nothing is left to fill
pub fills_none : (i len n : ℕ) (bytes total : List ℕ) → len ≤ i → len ≡ length bytes → take i bytes ++ padded (len - i) n ≡ total → bytes ≡ total
unfolding padded
fills_none i len n bytes total le is so_far =
    let k : len - i ≡ zero = omega arith in
    let whole : take i bytes ≡ bytes = grind (arith, common_steps) in
    let old : take i bytes ++ [] ≡ total = rw k at so_far in
    sym whole ∙ sym (append-nil (take i bytes)) ∙ old

-- ---- the loop that counts them

pub record Counts (count n total : ℕ) : Type 0 where
  pub few : count ≤ 10
  pub small : n < 128 ^ (11 - count)
  pub so_far : count + groups_in (11 - count) n ≡ total

not_last : (count n : ℕ) → count ≤ 10 → n < 128 ^ (11 - count) → 128 ≤ n → count ≤ 9
not_last count n le lt large =
    elim (cases_lt count 10) [
      | inl less ↦ omega arith
      | inr more ↦
          let ten : count ≡ 10 = omega arith in
          let small : n < 128 ^ 1 = subst (λ (k : ℕ). n < 128 ^ (11 - k)) ten lt in
          absurd (omega arith)
    ]

pub counts_on : (count n total : ℕ) → Counts count n total → 128 ≤ n → Counts (count + 1) (n / 128) total
counts_on count n total is large =
    let less : count ≤ 9 = not_last count n is.few is.small large in
    let k : 11 - count ≡ suc (11 - (count + 1)) = omega arith in
    let small : n < 128 ^ suc (11 - (count + 1)) = subst (λ (m : ℕ). n < 128 ^ m) k is.small in
    let old : count + groups_in (suc (11 - (count + 1))) n ≡ total = subst (λ (m : ℕ). count + groups_in m n ≡ total) k is.so_far in
    let one = one_more (11 - (count + 1)) n large in
    record {
      few = omega arith;
      small = quotient (11 - (count + 1)) n small;
      so_far = omega (arith, old, one);
    }

pub counts_last : (count n total : ℕ) → Counts count n total → n < 128 → count + 1 ≡ total
counts_last count n total is low =
    let k : 11 - count ≡ suc (10 - count) = omega (arith, is.few) in
    let old : count + groups_in (suc (10 - count)) n ≡ total = subst (λ (m : ℕ). count + groups_in m n ≡ total) k is.so_far in
    let one = only_one (10 - count) n low in
    omega (arith, old, one)

-- a number of one byte
pub uleb_small : (n : ℕ) → n < 128 → uleb n ≡ n ∷ []
unfolding padded
uleb_small n lt =
    let count : group_count n ≡ suc zero = only_one 9 n lt in
    let low : n % 128 ≡ n = omega arith in
    rw (count, low) refl

abbrev pub group_of : Bool → ℕ → ℕ
group_of last rest = cond last (rest % 128) (rest % 128 + 128)

pub padded_first : (left rest : ℕ) → 0 < left → padded left rest ≡ group_of (eqb left 1) rest ∷ padded (left - 1) (rest / 128)
unfolding padded
padded_first zero rest lt = absurd (omega (arith, lt))
padded_first (suc zero) rest lt = refl
padded_first (suc (suc k)) rest lt =
    let one : suc (suc k) - 1 ≡ suc k = omega arith in
    let no : eqb (suc (suc k)) 1 ≡ false = other (eqb (suc (suc k)) 1) refl in
    sym (λ i. group_of (no i) rest ∷ padded (one i) (rest / 128)) where
      other : (b : Bool) → eqb (suc (suc k)) 1 ≡ b → b ≡ false
      other true e = absurd (let same = eqb-true (suc (suc k)) 1 e in omega (arith, same))
      other false e = refl
