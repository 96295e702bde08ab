-- The last zero byte of a section ends its last text.
use Rattle.std.proofs.Common.{◌≡◌, ℕ, zero, suc, ◌+◌, ◌-◌, ◌<◌, ◌≤◌, Bool, true, false, List, [], ◌∷◌, length, drop, get_or, Option, Some, None, eqb, refl, sym, ap, ◌∙◌, inl, inr, arith}
use Rattle.std.specs.Option.{is_some, option_map}
use Rattle.std.proofs.lemmas.Bool.{cases_Bool, cases_lt, cond-false, cond-true, eq-eqb, eqb-true, le-ltb, lt-ltb}
use Rattle.std.proofs.lemmas.List.{get_or-drop, length-drop}
use Rattle.memchr.specs.Find.{IsLastByte, is_byte}
use Rattle.dwz_def_reading.specs.Texts.{text_at, text_in}
use Rattle.dwz_def_reading.proofs.TextLemmas.{text_in-none}
use Rattle.dwz_graph_resolve.specs.TextEnds.{IsTextEnd}

mapped_some : {X Y : Type 0} (f : X → Y) (o : Option X) → is_some (option_map f o) ≡ is_some o
mapped_some f None = refl
mapped_some f (Some x) = refl

first_is : (b : ℕ) (bytes : List ℕ) (test : Bool) → eqb b 0 ≡ test → is_some (text_in bytes) ≡ true → is_some (text_in (b ∷ bytes)) ≡ true
unfolding text_in
first_is b bytes true e h = ap (λ (o : Option (List ℕ)). is_some o) (cond-true (eqb b 0) _ _ e)
first_is b bytes false e h = ap (λ (o : Option (List ℕ)). is_some o) (cond-false (eqb b 0) _ _ e) ∙ mapped_some _ (text_in bytes) ∙ h

zero_there : (bytes : List ℕ) (k : ℕ) → k < length bytes → get_or bytes k 0 ≡ 0 → is_some (text_in bytes) ≡ true
unfolding text_in
zero_there [] k l e = absurd (omega arith)
zero_there (b ∷ bytes) zero l e = ap (λ (o : Option (List ℕ)). is_some o) (cond-true (eqb b 0) _ _ (eq-eqb b 0 e))
zero_there (b ∷ bytes) (suc k) l e = elim (cases_Bool (eqb b 0)) [
  | inl t ↦ first_is b bytes true t (zero_there bytes k (omega arith) e)
  | inr f ↦ first_is b bytes false f (zero_there bytes k (omega arith) e)
]

some_text : (bytes : List ℕ) (offset k : ℕ) → offset ≤ k → k < length bytes → get_or bytes k 0 ≡ 0 → is_some (text_at bytes offset) ≡ true
some_text bytes offset k low high e =
    let at : offset + (k - offset) ≡ k = omega arith in
    zero_there (drop offset bytes) (k - offset) (omega (arith, length-drop offset bytes)) (get_or-drop offset bytes (k - offset) 0 ∙ ap (λ (n : ℕ). get_or bytes n 0) at ∙ e)

no_text : (bytes : List ℕ) (offset : ℕ) → ((k : ℕ) → offset ≤ k → k < length bytes → get_or bytes k 0 ≡ 0 → ⊥) → is_some (text_at bytes offset) ≡ false
no_text bytes offset none =
    ap (λ (o : Option (List ℕ)). is_some o)
    (text_in-none (drop offset bytes) (λ k l e. let len = length-drop offset bytes in none (offset + k) (omega arith) (omega arith) (sym (get_or-drop offset bytes k 0) ∙ e)))

pub no_zero : (bytes : List ℕ) → IsLastByte (is_byte 0) bytes None → IsTextEnd bytes 0
no_zero bytes is offset = no_text bytes offset (λ k low high e. is k (omega arith) high (eq-eqb _ 0 e)) ∙ sym (le-ltb offset 0 (omega arith))

pub last_zero : (bytes : List ℕ) (last : ℕ) → IsLastByte (is_byte 0) bytes (Some last) → IsTextEnd bytes (last + 1)
last_zero bytes last is offset = elim (cases_lt offset (last + 1)) [
  | inl lt ↦ some_text bytes offset last (omega arith) is.0.high (eqb-true _ 0 is.1) ∙ sym (lt-ltb offset (last + 1) lt)
  | inr ge ↦ no_text bytes offset (λ k low high e. is.0.after k (omega arith) high (eq-eqb _ 0 e)) ∙ sym (le-ltb offset (last + 1) ge)
]
