-- The groups of a LEB128 number, and reading them one by one.
use Rattle.std.proofs.Common.{◌≡◌, ℕ, zero, suc, ◌+◌, ◌*◌, ◌%◌, ◌^◌, ◌<◌, ◌≤◌, ◌-◌, List, [], ◌∷◌, ◌++◌, length, get_or, take, drop, Result, Ok, Err, refl, sym, ap, subst, ◌∙◌, ◌⊎◌, ltb, cond, false}
use Rattle.std.proofs.Common.{true, Bool, arith, append_assoc}
use Rattle.std.proofs.lemmas.Bool.{ltb-false, ltb-true, le-ltb, lt-ltb}
use Rattle.std.proofs.lemmas.List.{drop_more, drop_all}
use Rattle.std.proofs.lemmas.Grind.{common_steps, take_at_read}
use Rattle.std.proofs.Math.Logic.{inl, inr}
use Rattle.std.proofs.Math.Nat.{pow-suc, pow-le-pow_right}
use Rattle.dwz_bytes.specs.declared.error.ByteErr.{ByteErr}
use Rattle.dwz_bytes.specs.declared.error.ByteErr.TheVariants.{Short, Wide}
use Rattle.dwz_bytes.specs.Spelling.{IsGroups, groups_value, last_of}
use Rattle.dwz_bytes.specs.Reading.{◌>>=◌, groups_at}
use Rattle.dwz_bytes.specs.Laws.{GoOn}

-- ---- cases

pub bind_ok : {A B : Type 0} (r : Result A ByteErr) (f : A → Result B ByteErr) (y : B) → (r >>= f) ≡ Ok y → (x : A) × (r ≡ Ok x) × (f x ≡ Ok y)
bind_ok (Ok x) f y e = (x, refl, e)
bind_ok (Err d) f y e = absurd cc

pub bind_err : {A B : Type 0} (r : Result A ByteErr) (f : A → Result B ByteErr) (d : ByteErr) → (r >>= f) ≡ Err d → (r ≡ Err d) ⊎ ((x : A) × (r ≡ Ok x) × (f x ≡ Err d))
bind_err (Ok x) f d e = inr (x, refl, e)
bind_err {A} {B} (Err c) f d e = let same : c ≡ d = cc in inl (ap (λ (w : ByteErr). Err w) same)

pub chosen : {A : Type 0} (b : Bool) (x y z : A) → cond b x y ≡ z → ((b ≡ true) × (x ≡ z)) ⊎ ((b ≡ false) × (y ≡ z))
chosen true x y z e = inl (refl, e)
chosen false x y z e = inr (refl, e)

-- ---- values

spread : (a w g h : ℕ) → a + 128 * (g + w * h) ≡ a + 128 * g + (w * 128) * h
spread a w g h = omega arith

pub groups_value-append : (xs ys : List ℕ) → groups_value (xs ++ ys) ≡ groups_value xs + 128 ^ length xs * groups_value ys
groups_value-append [] ys = omega arith
groups_value-append (x ∷ xs) ys =
    rw (groups_value-append xs ys, pow-suc 128 (length xs)) (spread (x % 128) (128 ^ length xs) (groups_value xs) (groups_value ys))

pub groups_below : (xs : List ℕ) → groups_value xs < 128 ^ length xs
groups_below [] = omega arith
groups_below (x ∷ xs) =
    let rest = groups_below xs in
    let weight : 128 ^ suc (length xs) ≡ 128 ^ length xs * 128 = pow-suc 128 (length xs) in
    omega arith

pub last_of-append : (xs : List ℕ) (b : ℕ) → last_of (xs ++ b ∷ []) ≡ b
last_of-append [] b = refl
last_of-append (x ∷ []) b = refl
last_of-append (x ∷ y ∷ xs) b = last_of-append (y ∷ xs) b

pub more : (b : ℕ) (front : List ℕ) → 128 ≤ b → IsGroups front → IsGroups (b ∷ front)
more b [] le is = absurd is
more b (c ∷ cs) le is = (le, is)

-- ---- reading the bytes of a number

-- what was read from the front of bytes
pub record AreGroupsOf (k : ℕ) (bytes front : List ℕ) : Type 0 where
  pub groups : IsGroups front
  pub len : length front ≤ k
  pub rest : List ℕ
  pub parts : bytes ≡ front ++ rest

pub groups_found : (start k : ℕ) (bytes front : List ℕ) → groups_at start k bytes ≡ Ok front → AreGroupsOf k bytes front
unfolding groups_at
groups_found start zero bytes front e = absurd cc
groups_found start (suc k) [] front e = absurd cc
groups_found start (suc k) (b ∷ rest) front e =
    let f : List ℕ → Result (List ℕ) ByteErr = λ others. Ok (b ∷ others) in
    elim (chosen (ltb b 128) (Ok (b ∷ [])) (groups_at start k rest >>= f) (Ok front) e) [
      | inl p ↦
          let lt : b < 128 = ltb-true _ _ p.0 in
          let same : b ∷ [] ≡ front = cc in
          let one : AreGroupsOf (suc k) (b ∷ rest) (b ∷ []) = record { groups = lt; len = omega arith; rest = rest; parts = refl } in
          subst (AreGroupsOf (suc k) (b ∷ rest)) same one
      | inr p ↦
          let le : 128 ≤ b = ltb-false _ _ p.0 in
          let a = bind_ok (groups_at start k rest) f front p.1 in
          let t = groups_found start k rest a.0 a.1 in
          let same : b ∷ a.0 ≡ front = cc in
          let one : AreGroupsOf (suc k) (b ∷ rest) (b ∷ a.0) = record { groups = more b a.0 le t.groups; len = omega (arith, t.len); rest = t.rest; parts = ap (λ (w : List ℕ). b ∷ w) t.parts } in
          subst (AreGroupsOf (suc k) (b ∷ rest)) same one
    ]

pub groups_again : (start k : ℕ) (front rest : List ℕ) → IsGroups front → length front ≤ k → groups_at start k (front ++ rest) ≡ Ok front
unfolding groups_at
groups_again start k [] rest is le = absurd is
groups_again start zero (b ∷ bs) rest is le = absurd (omega arith)
groups_again start (suc k) (b ∷ []) rest is le = rw (lt-ltb b 128 is) refl
groups_again start (suc k) (b ∷ c ∷ bs) rest is le =
    let others = groups_again start k (c ∷ bs) rest is.1 (omega arith) in
    rw (le-ltb b 128 is.0, others) refl

-- ---- where there is none

pub groups_short : (start k at : ℕ) (bytes : List ℕ) → groups_at start k bytes ≡ Err (Short at) → (at ≡ start) × (length bytes < k) × GoOn bytes
unfolding groups_at
groups_short start zero at bytes e = absurd cc
groups_short start (suc k) at [] e = (cc, omega arith, tt)
groups_short start (suc k) at (b ∷ rest) e =
    let f : List ℕ → Result (List ℕ) ByteErr = λ others. Ok (b ∷ others) in
    elim (chosen (ltb b 128) (Ok (b ∷ [])) (groups_at start k rest >>= f) (Err (Short at)) e) [
      | inl p ↦ absurd cc
      | inr p ↦ elim (bind_err (groups_at start k rest) f (Short at) p.1) [
        | inl h ↦ let t = groups_short start k at rest h in (t.0, omega (arith, t.1), (ltb-false _ _ p.0, t.2))
        | inr h ↦ absurd cc
      ]
    ]

pub short_groups : (start k : ℕ) (bytes : List ℕ) → length bytes < k → GoOn bytes → groups_at start k bytes ≡ Err (Short start)
unfolding groups_at
short_groups start zero bytes lt on = absurd (omega arith)
short_groups start (suc k) [] lt on = refl
short_groups start (suc k) (b ∷ rest) lt on = rw (le-ltb b 128 on.0, short_groups start k rest (omega arith) on.1) refl

pub groups_wide : (start k at : ℕ) (bytes : List ℕ) → groups_at start k bytes ≡ Err (Wide at) → (at ≡ start) × (k ≤ length bytes) × GoOn (take k bytes)
unfolding groups_at
groups_wide start zero at bytes e = (cc, omega arith, tt)
groups_wide start (suc k) at [] e = absurd cc
groups_wide start (suc k) at (b ∷ rest) e =
    let f : List ℕ → Result (List ℕ) ByteErr = λ others. Ok (b ∷ others) in
    elim (chosen (ltb b 128) (Ok (b ∷ [])) (groups_at start k rest >>= f) (Err (Wide at)) e) [
      | inl p ↦ absurd cc
      | inr p ↦ elim (bind_err (groups_at start k rest) f (Wide at) p.1) [
        | inl h ↦ let t = groups_wide start k at rest h in (t.0, omega (arith, t.1), (ltb-false _ _ p.0, t.2))
        | inr h ↦ absurd cc
      ]
    ]

pub wide_groups : (start k : ℕ) (bytes : List ℕ) → k ≤ length bytes → GoOn (take k bytes) → groups_at start k bytes ≡ Err (Wide start)
unfolding groups_at
wide_groups start zero bytes le on = refl
wide_groups start (suc k) [] le on = absurd (omega arith)
wide_groups start (suc k) (b ∷ rest) le on = rw (le-ltb b 128 on.0, wide_groups start k rest (omega arith) on.1) refl

-- ---- the loop that reads them

-- the bytes so far, before what is read of the others
abbrev pub behind : List ℕ → Result (List ℕ) ByteErr → Result (List ℕ) ByteErr
behind front read = read >>= λ others. Ok (front ++ others)

behind-behind : (front : List ℕ) (b : ℕ) (read : Result (List ℕ) ByteErr) → behind front (read >>= λ others. Ok (b ∷ others)) ≡ behind (front ++ b ∷ []) read
behind-behind front b (Ok x) = ap (λ (w : List ℕ). Ok w) (sym (append_assoc front (b ∷ []) x))
behind-behind front b (Err e) = refl

pub at_first : (read : Result (List ℕ) ByteErr) → behind [] read ≡ read
at_first (Ok x) = refl
at_first (Err e) = refl

-- one more group
pub goes_on : (start i : ℕ) (bytes : List ℕ) → i < 10 → i < length bytes → 128 ≤ get_or bytes i 0
    → behind (take i bytes) (groups_at start (10 - i) (drop i bytes)) ≡ behind (take (i + 1) bytes) (groups_at start (10 - (i + 1)) (drop (i + 1) bytes))
unfolding groups_at
goes_on start i bytes below within high =
    let k : 10 - i ≡ suc (10 - (i + 1)) = omega arith in
    let cut : drop i bytes ≡ get_or bytes i 0 ∷ drop (i + 1) bytes = drop_more bytes i 0 within in
    let longer : take (i + 1) bytes ≡ take i bytes ++ get_or bytes i 0 ∷ [] = (take_at_read bytes i 0 within).1 in
    let test : ltb (get_or bytes i 0) 128 ≡ false = le-ltb _ _ high in
    rw (k, cut, test, longer) (behind-behind (take i bytes) (get_or bytes i 0) (groups_at start (10 - (i + 1)) (drop (i + 1) bytes)))

-- the last group
pub ends : (start i : ℕ) (bytes : List ℕ) → i < 10 → i < length bytes → get_or bytes i 0 < 128
    → behind (take i bytes) (groups_at start (10 - i) (drop i bytes)) ≡ Ok (take (i + 1) bytes)
unfolding groups_at
ends start i bytes below within low =
    let k : 10 - i ≡ suc (10 - (i + 1)) = omega arith in
    let cut : drop i bytes ≡ get_or bytes i 0 ∷ drop (i + 1) bytes = drop_more bytes i 0 within in
    let longer : take (i + 1) bytes ≡ take i bytes ++ get_or bytes i 0 ∷ [] = (take_at_read bytes i 0 within).1 in
    let test : ltb (get_or bytes i 0) 128 ≡ true = lt-ltb _ _ low in
    rw (k, cut, test, longer) refl

-- the bytes end
pub cut_short : (start i : ℕ) (bytes : List ℕ) → i < 10 → i ≡ length bytes → behind (take i bytes) (groups_at start (10 - i) (drop i bytes)) ≡ Err (Short start)
unfolding groups_at
cut_short start i bytes below done =
    let k : 10 - i ≡ suc (10 - (i + 1)) = omega arith in
    let none : drop i bytes ≡ [] = drop_all i bytes (omega arith) in
    rw (k, none) refl

pub too_many : (start i : ℕ) (bytes : List ℕ) → 10 ≤ i → behind (take i bytes) (groups_at start (10 - i) (drop i bytes)) ≡ Err (Wide start)
unfolding groups_at
too_many start i bytes done =
    let k : 10 - i ≡ 0 = omega arith in
    rw k refl

-- the values with one group more
pub value_more : (i : ℕ) (bytes : List ℕ) → i < length bytes → groups_value (take (i + 1) bytes) ≡ groups_value (take i bytes) + get_or bytes i 0 % 128 * 128 ^ i
value_more i bytes within =
    let longer : take (i + 1) bytes ≡ take i bytes ++ get_or bytes i 0 ∷ [] = (take_at_read bytes i 0 within).1 in
    let len : length (take i bytes) ≡ i = grind (arith, common_steps) in
    let both = groups_value-append (take i bytes) (get_or bytes i 0 ∷ []) in
    rw longer (both ∙ rw len (grind arith))

pub last_more : (i : ℕ) (bytes : List ℕ) → i < length bytes → get_or bytes i 0 ≡ last_of (take (i + 1) bytes)
last_more i bytes within =
    let longer : take (i + 1) bytes ≡ take i bytes ++ get_or bytes i 0 ∷ [] = (take_at_read bytes i 0 within).1 in
    rw longer (sym (last_of-append (take i bytes) (get_or bytes i 0)))

-- ten groups are no more than 70 bits
pub weight_small : (i : ℕ) → i < 10 → 128 ^ i ≤ 128 ^ 9
weight_small i lt =
    let some : 0 < 128 = omega arith in
    let le : i ≤ 9 = omega arith in
    pow-le-pow_right some le
