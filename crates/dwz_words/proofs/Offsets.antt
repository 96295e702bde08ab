-- The digits of an OFFSET are text, and spell a number of 32 bits.
use Rattle.std.proofs.Common.{◌≡◌, ◌⊎◌, ◌∙◌, ◌<◌, ◌≤◌, ◌^◌, ◌∷◌, [], refl, sym, ap, subst, inl, inr, ℕ, ◌-◌, zero, suc, Bool, true, false, List, arith, length, drop, length-drop, take}
use Rattle.std.specs.Prelude.{Err, IsOk, MatchResult, Ok, Result, ◌==◌, ◌||◌, codes, nat_eq, nat_le, nat_lt}
use Rattle.std.specs.Char.{digit_value, is_ascii_hexdigit, is_ascii_uppercase}
use Rattle.std.specs.Int.{IsInRange, is_in_range}
use Rattle.std.specs.List.{list_all, starts_with}
use Rattle.std.specs.Str.{IsAscii, IsUtf8}
use Rattle.std.specs.Str.Parse.{AllDigits, IsNumeral, ParsesUnsigned, digits_value, without_leading_plus}
use Rattle.std.proofs.Math.Nat.{pow-le-pow_right}
use Rattle.std.proofs.lemmas.Bool.{le-leb, le-ltb, leb-true, lt-ltb, ltb-true, ne_eqb, not-true}
use Rattle.std.proofs.lemmas.Int.Digits.{digits_value-lt}
use Rattle.std.proofs.lemmas.List.{take_all}
use Rattle.std.proofs.lemmas.Str.{IsUtf8-from_ascii, digit_value_digit}
use Rattle.clap.proofs.WalkLemmas.{both}
use Rattle.dwz_words.specs.Conditions.{Word, is_offset, is_offset_digit}

in_range : (low high c : ℕ) → is_in_range low high c ≡ true → IsInRange low high c
in_range low high c e =
    let parts = both _ _ e in
    (leb-true _ _ parts.0, leb-true _ _ parts.1)

-- a digit from 0 to 9, or a letter from a to f
digit_or_letter : (c : ℕ) → is_offset_digit c ≡ true → IsInRange 48 57 c ⊎ IsInRange 97 102 c
digit_or_letter c e = go (is_in_range 48 57 c) refl (is_in_range 65 70 c) refl (both (is_ascii_hexdigit c) _ e).0
  where
    no_capital : is_in_range 65 70 c ≡ true → ⊥
    no_capital h =
        let range = in_range 65 70 c h in
        let capital : is_ascii_uppercase c ≡ true = rw (le-leb 65 c (omega arith), le-leb c 90 (omega arith)) refl in
        let bad : true ≡ false = sym capital ∙ not-true _ (both (is_ascii_hexdigit c) _ e).1 in
        cc

    go : (a : Bool) → is_in_range 48 57 c ≡ a → (b : Bool) → is_in_range 65 70 c ≡ b → ((a || b) || is_in_range 97 102 c) ≡ true
        → IsInRange 48 57 c ⊎ IsInRange 97 102 c
    go true h b k all = inl (in_range 48 57 c h)
    go false h true k all = absurd (no_capital k)
    go false h false k all = inr (in_range 97 102 c all)

letter_value : (c : ℕ) → IsInRange 97 102 c → digit_value c < 16
letter_value c range = rw (
  le-ltb c 48 (omega arith),
  le-ltb c 58 (omega arith),
  le-ltb c 65 (omega arith),
  le-ltb c 91 (omega arith),
  le-ltb c 97 (omega arith),
  lt-ltb c 123 (omega arith),
) (omega arith)

digit_fits : (c : ℕ) → is_offset_digit c ≡ true → digit_value c < 16
digit_fits c e = elim (digit_or_letter c e) [
  | inl digit ↦ omega (arith, digit_value_digit c digit)
  | inr letter ↦ letter_value c letter
]

digit_bounds : (c : ℕ) → is_offset_digit c ≡ true → (48 ≤ c) × (c < 128)
digit_bounds c e = elim (digit_or_letter c e) [
  | inl digit ↦ (omega arith, omega arith)
  | inr letter ↦ (omega arith, omega arith)
]

all_digits : (ds : List ℕ) → list_all is_offset_digit ds ≡ true → AllDigits 16 ds
all_digits [] e = tt
all_digits (d ∷ ds) e =
    let parts = both (is_offset_digit d) _ e in
    (digit_fits d parts.0, all_digits ds parts.1)

all_ascii : (ds : List ℕ) → list_all is_offset_digit ds ≡ true → IsAscii ds
all_ascii [] e i = omega arith
all_ascii (d ∷ ds) e zero = (digit_bounds d (both (is_offset_digit d) _ e).0).1
all_ascii (d ∷ ds) e (suc i) = all_ascii ds (both (is_offset_digit d) _ e).1 i

no_plus : (ds : List ℕ) → list_all is_offset_digit ds ≡ true → without_leading_plus ds ≡ ds
no_plus [] e = refl
no_plus (d ∷ ds) e =
    let bounds = digit_bounds d (both (is_offset_digit d) _ e).0 in
    let other : (d == 43) ≡ false = ne_eqb _ _ (λ same. omega arith) in
    rw other refl

-- at most 8 digits of base 16 spell a number of 32 bits
value_fits : (ds : List ℕ) → list_all is_offset_digit ds ≡ true → length ds ≤ 8 → digits_value 16 ds < 2 ^ 32
value_fits ds e few =
    let below = digits_value-lt 16 ds (all_digits ds e) in
    let most : 16 ^ length ds ≤ 16 ^ 8 = pow-le-pow_right (omega arith) few in
    omega arith

-- what an OFFSET has behind `0x`
record HasDigits (ds : List ℕ) : Type 0 where
  some : 0 < length ds
  few : length ds ≤ 8
  all : list_all is_offset_digit ds ≡ true

digits_of : (word : Word) → is_offset word ≡ true → HasDigits (drop 2 word)
digits_of word e =
    let behind = (both (starts_with nat_eq word (codes "0x")) _ e).1 in
    let bounds = both (nat_lt 2 (length word)) _ behind in
    let rest = both (nat_le (length word) 10) _ bounds.1 in
    let more : 2 < length word = ltb-true _ _ bounds.0 in
    let few : length word ≤ 10 = leb-true _ _ rest.0 in
    record { some = omega (arith, length-drop 2 word); few = omega (arith, length-drop 2 word); all = rest.1 }

-- the digits are all that is behind the first two bytes
all_behind : (word : Word) → take (length word - 2) (drop 2 word) ≡ drop 2 word
all_behind word = take_all (length word - 2) (drop 2 word) (omega (arith, length-drop 2 word))

-- they are text, so to read them as text gives no error,
pub offset_text : {T E : Type 0} (P : T → Type 0) (R : E → Type 0) (word : Word) (r : Result T E) → is_offset word ≡ true
    → MatchResult r P (λ e. ¬ (IsUtf8 (take (length word - 2) (drop 2 word))) × R e) → IsOk r
offset_text {T = T} {E = E} P R word r e read = go r read
  where
    text : IsUtf8 (take (length word - 2) (drop 2 word))
    text = subst IsUtf8 (sym (all_behind word)) (IsUtf8-from_ascii (drop 2 word) (all_ascii (drop 2 word) (digits_of word e).all))

    go : (r : Result T E) → MatchResult r P (λ e. ¬ (IsUtf8 (take (length word - 2) (drop 2 word))) × R e) → IsOk r
    go (Ok x) h = refl
    go (Err f) h = absurd (h.0 text)

-- and as a number of 32 bits they give the one that they spell
pub offset_read : {E : Type 0} (word : Word) (ds : List ℕ) (r : Result ℕ E) → is_offset word ≡ true
    → ds ≡ take (length word - 2) (drop 2 word) → ParsesUnsigned 32 16 ds r → r ≡ Ok (digits_value 16 (drop 2 word))
offset_read {E = E} word ds r e are parses =
    go r (subst (λ (l : List ℕ). ParsesUnsigned 32 16 l r) (are ∙ all_behind word) parses)
  where
    same : without_leading_plus (drop 2 word) ≡ drop 2 word
    same = no_plus (drop 2 word) (digits_of word e).all

    numeral : IsNumeral 16 (drop 2 word)
    numeral = ((digits_of word e).some, all_digits (drop 2 word) (digits_of word e).all)

    go : (r : Result ℕ E) → ParsesUnsigned 32 16 (drop 2 word) r → r ≡ Ok (digits_value 16 (drop 2 word))
    go (Ok n) h = ap (λ n. Ok n) (h.1 ∙ rw same refl)
    go (Err f) h = absurd (h (rw same (numeral, value_fits (drop 2 word) (digits_of word e).all (digits_of word e).few)))
