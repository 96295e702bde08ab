-- LEB128 numbers of either kind are read as they are spelled.
use Rattle.std.proofs.Common.{◌≡◌, ℕ, ◌+◌, ◌*◌, ◌%◌, ◌<◌, ◌≤◌, List, [], ◌∷◌, ◌++◌, length, get_or, take, drop, Result, Ok, Err, refl, sym, ap, subst, ◌∙◌, cond, false, true, Bool, arith}
use Rattle.std.proofs.Math.Logic.{inl, inr}
use Rattle.std.proofs.lemmas.Bool.{lt-ltb}
use Rattle.std.proofs.lemmas.Grind.{common_steps}
use Rattle.std.proofs.lemmas.List.{drop_more}
use Rattle.dwz_bytes.specs.declared.error.ByteErr.{ByteErr}
use Rattle.dwz_bytes.specs.declared.error.ByteErr.TheVariants.{Short, Wide}
use Rattle.dwz_bytes.specs.Input.{Input, input, past}
use Rattle.dwz_bytes.specs.Spelling.{SpellsLeb, fits_u64, groups_value}
use Rattle.dwz_bytes.specs.Reading.{groups_at, leb_at, uleb_at}
use Rattle.dwz_bytes.specs.Laws.{IsCutShort, IsReadNumber, IsShortAt, IsWideAt, One, ReadNumberIsSpelled, SpelledNumberIsRead}
use Rattle.dwz_bytes.proofs.GroupLemmas.{AreGroupsOf, bind_ok, bind_err, chosen, groups_again, groups_found, groups_short, groups_wide, short_groups, wide_groups}

pub drop-front : (front rest : List ℕ) → drop (length front) (front ++ rest) ≡ rest
drop-front [] rest = refl
drop-front (x ∷ front) rest = drop-front front rest

pub take-front : (front rest : List ℕ) → take (length front) (front ++ rest) ≡ front
take-front [] rest = refl
take-front (x ∷ front) rest = ap (λ (w : List ℕ). x ∷ w) (take-front front rest)

abbrev read_as : List ℕ → Result (List ℕ) ByteErr
read_as bytes = Ok bytes

ok_is : (a b : List ℕ) → read_as a ≡ read_as b → a ≡ b
ok_is a b e = cc

-- what is made of the bytes of a number
abbrev made : {X : Type 0} → (List ℕ → X) → (X → Bool) → Input → List ℕ → Result (X × Input) ByteErr
made worth fits i bytes = cond (fits (worth bytes)) (Ok (worth bytes, past (length bytes) i)) (Err (Wide i.at))

pub leb_again : {X : Type 0} (worth : List ℕ → X) (fits : X → Bool) → SpelledNumberIsRead (SpellsLeb worth fits) (leb_at worth fits)
leb_again {X} worth fits at x front rest is =
    let test : fits (worth front) ≡ true = subst (λ (y : X). fits y ≡ true) is.value is.in_range in
    rw (groups_again at 10 front rest is.groups is.len, test, drop-front front rest) (ap (λ (y : X). Ok (y, record { at = at + length front; rest = rest })) (sym is.value))

abbrev value_or : {X : Type 0} → X → Result (X × Input) ByteErr → X
value_or d (Ok p) = p.0
value_or d (Err e) = d

abbrev input_or : {X : Type 0} → Input → Result (X × Input) ByteErr → Input
input_or d (Ok p) = p.1
input_or d (Err e) = d

found_front : {X : Type 0} (worth : List ℕ → X) (fits : X → Bool) (i j : Input) (x : X) (front : List ℕ) → AreGroupsOf 10 i.rest front → made worth fits i front ≡ Ok (x, j)
    → IsReadNumber (SpellsLeb worth fits) i j x
found_front {X} worth fits i j x front t e =
    elim (chosen (fits (worth front)) (Ok (worth front, past (length front) i)) (Err (Wide i.at)) (Ok (x, j)) e) [
      | inl p ↦
          let value : worth front ≡ x = ap (value_or x) p.1 in
          let to : past (length front) i ≡ j = ap (input_or j) p.1 in
          let behind : drop (length front) i.rest ≡ t.rest = ap (drop (length front)) t.parts ∙ drop-front front t.rest in
          let left : j.rest ≡ t.rest = ap (λ (k : Input). k.rest) (sym to) ∙ behind in (
            front,
            record { groups = t.groups; len = t.len; value = sym value; in_range = subst (λ (y : X). fits y ≡ true) value p.0 },
            t.parts ∙ ap (λ (w : List ℕ). front ++ w) (sym left),
            ap (λ (k : Input). k.at) (sym to),
          )
      | inr p ↦ absurd cc
    ]

pub leb_found : {X : Type 0} (worth : List ℕ → X) (fits : X → Bool) → ReadNumberIsSpelled (SpellsLeb worth fits) (leb_at worth fits)
leb_found {X} worth fits i j x e =
    let a = bind_ok (groups_at i.at 10 i.rest) (made worth fits i) (x, j) e in
    found_front worth fits i j x a.0 (groups_found i.at 10 i.rest a.0 a.1) a.2

pub leb_one : {X : Type 0} (worth : List ℕ → X) (fits : X → Bool) → One (SpellsLeb worth fits)
leb_one {X} worth fits a b more others x y p q e =
    let first : groups_at 0 10 (a ++ more) ≡ Ok a = groups_again 0 10 a more p.groups p.len in
    let second : groups_at 0 10 (b ++ others) ≡ Ok b = groups_again 0 10 b others q.groups q.len in
    let same : a ≡ b = ok_is a b (sym first ∙ ap (groups_at 0 10) e ∙ second) in
    (same, p.value ∙ ap worth same ∙ sym q.value)

pub leb_short : {X : Type 0} (worth : List ℕ → X) (fits : X → Bool) → IsShortAt IsCutShort (leb_at worth fits)
leb_short {X} worth fits i at = (
  λ e. elim (bind_err (groups_at i.at 10 i.rest) (made worth fits i) (Short at) e) [
    | inl h ↦ let t = groups_short i.at 10 at i.rest h in (t.0, (t.1, t.2))
    | inr h ↦ elim (chosen (fits (worth h.0)) (Ok (worth h.0, past (length h.0) i)) (Err (Wide i.at)) (Err (Short at)) h.2) [
      | inl p ↦ absurd cc
      | inr p ↦ absurd cc
    ]
  ],
  λ h. rw (short_groups i.at 10 i.rest h.1.0 h.1.1) (ap (λ (n : ℕ). Err (Short n)) (sym h.0)),
)

pub leb_wide : {X : Type 0} (worth : List ℕ → X) (fits : X → Bool) → IsWideAt worth fits (leb_at worth fits)
leb_wide {X} worth fits i at = (
  λ e. elim (bind_err (groups_at i.at 10 i.rest) (made worth fits i) (Wide at) e) [
    | inl h ↦ let t = groups_wide i.at 10 at i.rest h in (t.0, inl (t.1, t.2))
    | inr h ↦ elim (chosen (fits (worth h.0)) (Ok (worth h.0, past (length h.0) i)) (Err (Wide i.at)) (Err (Wide at)) h.2) [
      | inl p ↦ absurd cc
      | inr p ↦
          let t = groups_found i.at 10 i.rest h.0 h.1 in
          let place : at ≡ i.at = cc in
          (place, inr (record { front = h.0; rest = t.rest; groups = t.groups; len = t.len; too_big = p.0; parts = t.parts }))
    ]
  ],
  λ h. elim h.1 [
    | inl l ↦ rw (wide_groups i.at 10 i.rest l.0 l.1) (ap (λ (n : ℕ). Err (Wide n)) (sym h.0))
    | inr b ↦
        let read : groups_at i.at 10 i.rest ≡ Ok b.front = rw b.parts (groups_again i.at 10 b.front b.rest b.groups b.len) in
        rw (read, b.too_big) (ap (λ (n : ℕ). Err (Wide n)) (sym h.0))
  ],
)

-- ---- from the groups that were found

pub leb_fails : {X : Type 0} (worth : List ℕ → X) (fits : X → Bool) (i : Input) (e : ByteErr) → groups_at i.at 10 i.rest ≡ Err e → leb_at worth fits i ≡ Err e
leb_fails worth fits i e h = rw h refl

pub leb_is_wide : {X : Type 0} (worth : List ℕ → X) (fits : X → Bool) (i : Input) (front : List ℕ) → groups_at i.at 10 i.rest ≡ Ok front → fits (worth front) ≡ false
    → leb_at worth fits i ≡ Err (Wide i.at)
leb_is_wide worth fits i front h big = rw (h, big) refl

pub leb_is : {X : Type 0} (worth : List ℕ → X) (fits : X → Bool) (i : Input) (len : ℕ) (x : X) → groups_at i.at 10 i.rest ≡ Ok (take len i.rest) → len ≤ length i.rest → x ≡ worth (take len i.rest)
    → fits x ≡ true → leb_at worth fits i ≡ Ok (x, past len i)
leb_is {X} worth fits i len x h within value in_range =
    let test : fits (worth (take len i.rest)) ≡ true = subst (λ (y : X). fits y ≡ true) value in_range in
    let same : length (take len i.rest) ≡ len = grind (arith, common_steps) in
    rw (h, test, same) (ap (λ (y : X). Ok (y, past len i)) (sym value))

-- a number of one byte
pub one_byte : (bytes : List ℕ) (at : ℕ) → at < length bytes → get_or bytes at 0 < 128 → uleb_at (input bytes at) ≡ Ok (get_or bytes at 0, input bytes (at + 1))
unfolding uleb_at
one_byte bytes at within low =
    let cut : drop at bytes ≡ get_or bytes at 0 ∷ drop (at + 1) bytes = drop_more bytes at 0 within in
    let value : get_or bytes at 0 ≡ get_or bytes at 0 % 128 + 128 * 0 = omega arith in
    rw cut (leb_again groups_value fits_u64 at (get_or bytes at 0) (get_or bytes at 0 ∷ []) (drop (at + 1) bytes)
    (record { groups = low; len = omega arith; value = value; in_range = lt-ltb _ _ (omega arith) }))
