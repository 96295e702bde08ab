-- Numbers and starts of texts in a row: a text's number is the first place at which the test for it passes.
use Rattle.std.proofs.Common.{◌≡◌, ◌≢◌, ℕ, suc, ◌+◌, ◌<◌, Bool, true, false, cond, eqb, ltb, List, [], ◌∷◌, ◌++◌, length, get_or, take, drop, position, Option, Some, None, is_some, slice_get, refl}
use Rattle.std.proofs.Common.{sym, ap, subst, ◌∙◌, arith, drop-cons, bytes_eq}
use Rattle.std.specs.Option.{option_map, unwrap_or}
use Rattle.std.specs.List.{position_or_len}
use Rattle.std.specs.Prelude.{not}
use Rattle.std.proofs.lemmas.Bool.{eq-eqb, le-ltb, lt-ltb, ltb-false, ltb-true, ne_eqb}
use Rattle.std.proofs.lemmas.Grind.{flat_map-append}
use Rattle.std.proofs.lemmas.List.{length-append, take-append-drop}
use Rattle.std.proofs.lemmas.List.Folds.{position_or_len_push}
use Rattle.std.proofs.lemmas.List.Quantifiers.{all_pairs_push, position-Some}
use Rattle.std.proofs.lemmas.List.Sums.{fails_before_first, position_or_len_is, prefix_len-le-length}
use Rattle.std.proofs.lemmas.Option.{get_or_from_slice_get, slice_get-get_or, slice_get_within}
use Rattle.std.proofs.lemmas.Slice.Eq.{bytes_eq-Decides}
use Rattle.dwz_def_reading.specs.TextRows.{AreDifferent, start_of, start_of_number, text_number, text_section, with_text}
use Rattle.dwz_def_reading.specs.Texts.{IsTextAt, NoZero}

-- ---- the first place at which a test passes

module _ {X : Type 0} (p : X → Bool) (xs : List X) where
  pub first_at : (i : ℕ) → position_or_len p xs ≡ i → i < length xs → position p xs ≡ Some i
  first_at i e lt = ap (λ (n : ℕ). cond (ltb n (length xs)) (Some n) None) e ∙ ap (λ (b : Bool). cond b (Some i) None) (lt-ltb i (length xs) lt)

  pub first_nowhere : position_or_len p xs ≡ length xs → position p xs ≡ None
  first_nowhere e = ap (λ (n : ℕ). cond (ltb n (length xs)) (Some n) None) e ∙ ap (λ (b : Bool). cond b (Some (length xs)) None) (le-ltb (length xs) (length xs) (omega arith))

  pub place_of_none : position p xs ≡ None → position_or_len p xs ≡ length xs
  place_of_none e = go (ltb (position_or_len p xs) (length xs)) refl where
    go : (b : Bool) → ltb (position_or_len p xs) (length xs) ≡ b → position_or_len p xs ≡ length xs
    go true is = absurd (none_is_some (sym e ∙ first_at (position_or_len p xs) refl (ltb-true (position_or_len p xs) (length xs) is))) where
      none_is_some : {i : ℕ} → None ≡ Some i → ⊥
      none_is_some h = cc
    go false is = let le = ltb-false (position_or_len p xs) (length xs) is in omega (arith, le, prefix_len-le-length (λ x. not (p x)) xs)

  pub place_of_some : (i : ℕ) (d : X) → position p xs ≡ Some i → position_or_len p xs ≡ i
  place_of_some i d e = let s = position-Some p xs i d e in position_or_len_is p xs i d (omega (arith, s.0)) s.2 (λ _. s.1)

  -- one more element
  pub first_stays : (i : ℕ) (y : X) → position p xs ≡ Some i → position p (xs ++ y ∷ []) ≡ Some i
  first_stays i y e =
      let s = position-Some p xs i y e in
      let place = place_of_some i y e in
      let other : eqb (position_or_len p xs) (length xs) ≡ false = ne_eqb (position_or_len p xs) (length xs) (λ (h : position_or_len p xs ≡ length xs). omega (arith, h, place, s.0)) in
      let grown : position_or_len p (xs ++ y ∷ []) ≡ i = position_or_len_push p xs y ∙ ap (λ (b : Bool). cond b (length xs + cond (p y) 0 1) (position_or_len p xs)) other ∙ place in
      let within : i < length (xs ++ y ∷ []) = omega (arith, s.0, length-append xs (y ∷ [])) in
      ap (λ (n : ℕ). cond (ltb n (length (xs ++ y ∷ []))) (Some n) None) grown ∙ ap (λ (b : Bool). cond b (Some i) None) (lt-ltb i (length (xs ++ y ∷ [])) within)

  pub first_is_last : (y : X) → position p xs ≡ None → p y ≡ true → position p (xs ++ y ∷ []) ≡ Some (length xs)
  first_is_last y e passes =
      let same : eqb (position_or_len p xs) (length xs) ≡ true = eq-eqb (position_or_len p xs) (length xs) (place_of_none e) in
      let grown : position_or_len p (xs ++ y ∷ []) ≡ length xs + 0 =
      position_or_len_push p xs y ∙ ap (λ (b : Bool). cond b (length xs + cond (p y) 0 1) (position_or_len p xs)) same ∙ ap (λ (b : Bool). length xs + cond b 0 1) passes in
      let place : position_or_len p (xs ++ y ∷ []) ≡ length xs = omega (arith, grown) in
      let within : length xs < length (xs ++ y ∷ []) = omega (arith, length-append xs (y ∷ [])) in
      ap (λ (n : ℕ). cond (ltb n (length (xs ++ y ∷ []))) (Some n) None) place ∙ ap (λ (b : Bool). cond b (Some (length xs)) None) (lt-ltb (length xs) (length (xs ++ y ∷ [])) within)

-- ---- numbers

pub same_text : (text : List ℕ) → bytes_eq text text ≡ true
same_text text = (bytes_eq-Decides text text).1 refl

-- the text with that number
pub number_here : (texts : List (List ℕ)) (text : List ℕ) (n : ℕ) → text_number texts text ≡ Some n → slice_get texts n ≡ Some text
number_here texts text n e =
    let s = position-Some (bytes_eq text) texts n [] e in
    slice_get-get_or texts n [] s.0 ∙ ap (λ (t : List ℕ). Some t) (sym ((bytes_eq-Decides text (get_or texts n [])).0 s.1))

-- a test that isn't passed
not_equal : (a b : List ℕ) → a ≢ b → bytes_eq a b ≡ false
not_equal a b ne = go (bytes_eq a b) refl where
  go : (t : Bool) → bytes_eq a b ≡ t → bytes_eq a b ≡ false
  go true e = absurd (ne ((bytes_eq-Decides a b).0 e))
  go false e = e

pub here_number : (texts : List (List ℕ)) (text : List ℕ) (n : ℕ) → AreDifferent texts → slice_get texts n ≡ Some text → text_number texts text ≡ Some n
here_number texts text n apart e =
    let lt = slice_get_within texts n text e in
    let at : get_or texts n [] ≡ text = get_or_from_slice_get texts n text [] e in
    first_at (bytes_eq text) texts n
    (position_or_len_is (bytes_eq text) texts n [] (omega (arith, lt))
    (λ k less. not_equal text (get_or texts k []) (λ same. apart k n [] less lt (sym same ∙ sym at)))
    (λ _. (bytes_eq-Decides text (get_or texts n [])).1 (sym at)))
    lt

pub no_number : (texts : List (List ℕ)) (text : List ℕ) → text_number texts text ≡ None → (n : ℕ) → slice_get texts n ≢ Some text
no_number texts text none n e =
    let lt = slice_get_within texts n text e in
    let at : get_or texts n [] ≡ text = get_or_from_slice_get texts n text [] e in
    let fails : bytes_eq text (get_or texts n []) ≡ false =
    fails_before_first (bytes_eq text) texts n [] (omega (arith, lt, place_of_none (bytes_eq text) texts none)) in
    let passes : bytes_eq text (get_or texts n []) ≡ true = (bytes_eq-Decides text (get_or texts n [])).1 (sym at) in
    cc

pub number_nowhere : (texts : List (List ℕ)) (text : List ℕ) → ((n : ℕ) → slice_get texts n ≢ Some text) → text_number texts text ≡ None
number_nowhere texts text nowhere = go (text_number texts text) refl where
  go : (o : Option ℕ) → text_number texts text ≡ o → text_number texts text ≡ None
  go None e = e
  go (Some n) e = absurd (nowhere n (number_here texts text n e))

-- ---- one text more

-- what a text that is used makes of the texts, by whether it has a number
abbrev with_known : List (List ℕ) → List ℕ → Option ℕ → List (List ℕ)
with_known texts text o = cond (is_some o) texts (texts ++ text ∷ [])

pub known_text : (texts : List (List ℕ)) (text : List ℕ) (n : ℕ) → text_number texts text ≡ Some n → with_text texts text ≡ texts
known_text texts text n e = ap (with_known texts text) e

pub new_text : (texts : List (List ℕ)) (text : List ℕ) → text_number texts text ≡ None → with_text texts text ≡ texts ++ text ∷ []
new_text texts text e = ap (with_known texts text) e

pub new_number : (texts : List (List ℕ)) (text : List ℕ) → text_number texts text ≡ None → text_number (texts ++ text ∷ []) text ≡ Some (length texts)
new_number texts text e = first_is_last (bytes_eq text) texts text e (same_text text)

pub number_used : (texts : List (List ℕ)) (text : List ℕ) → text_number (with_text texts text) text ≡ Some (unwrap_or (text_number texts text) (length texts))
number_used texts text = go (text_number texts text) refl where
  go : (o : Option ℕ) → text_number texts text ≡ o → text_number (with_text texts text) text ≡ Some (unwrap_or (text_number texts text) (length texts))
  go None e =
      ap (λ (ts : List (List ℕ)). text_number ts text) (new_text texts text e) ∙ new_number texts text e
      ∙ ap (λ (o : Option ℕ). Some (unwrap_or o (length texts))) (sym e)
  go (Some n) e =
      ap (λ (ts : List (List ℕ)). text_number ts text) (known_text texts text n e) ∙ e
      ∙ ap (λ (o : Option ℕ). Some (unwrap_or o (length texts))) (sym e)

pub number_kept : (texts : List (List ℕ)) (text other : List ℕ) (n : ℕ) → text_number texts other ≡ Some n → text_number (with_text texts text) other ≡ Some n
number_kept texts text other n e = go (text_number texts text) refl where
  go : (o : Option ℕ) → text_number texts text ≡ o → text_number (with_text texts text) other ≡ Some n
  go None none = ap (λ (ts : List (List ℕ)). text_number ts other) (new_text texts text none) ∙ first_stays (bytes_eq other) texts n text e
  go (Some m) some = ap (λ (ts : List (List ℕ)). text_number ts other) (known_text texts text m some) ∙ e

pub different_more : (texts : List (List ℕ)) (text : List ℕ) → AreDifferent texts → text_number texts text ≡ None → AreDifferent (texts ++ text ∷ [])
different_more texts text apart none =
    all_pairs_push (λ (a b : List ℕ). a ≢ b) texts text apart
    (λ k d lt same. no_number texts text none k (slice_get-get_or texts k d lt ∙ ap (λ (t : List ℕ). Some t) same))

pub different_with : (texts : List (List ℕ)) (text : List ℕ) → AreDifferent texts → AreDifferent (with_text texts text)
different_with texts text apart = go (text_number texts text) refl where
  go : (o : Option ℕ) → text_number texts text ≡ o → AreDifferent (with_text texts text)
  go None none = subst AreDifferent (sym (new_text texts text none)) (different_more texts text apart none)
  go (Some m) some = subst AreDifferent (sym (known_text texts text m some)) apart

-- ---- starts

pub length_more : (texts : List (List ℕ)) (text : List ℕ) → length (text_section (texts ++ text ∷ [])) ≡ length (text_section texts) + (length text + 1)
length_more texts text =
    let parts : text_section (texts ++ text ∷ []) ≡ text_section texts ++ ((text ++ 0 ∷ []) ++ []) = flat_map-append (λ (t : List ℕ). t ++ 0 ∷ []) texts (text ∷ []) in
    omega (arith, ap length parts, length-append (text_section texts) ((text ++ 0 ∷ []) ++ []), length-append (text ++ 0 ∷ []) [], length-append text (0 ∷ []))

-- a text stands behind those before it
pub text_starts : (texts : List (List ℕ)) (text : List ℕ) (n : ℕ) → NoZero text → slice_get texts n ≡ Some text → IsTextAt (text_section texts) (start_of_number texts n) text
text_starts texts text n no_zero e =
    let lt = slice_get_within texts n text e in
    let at : get_or texts n [] ≡ text = get_or_from_slice_get texts n text [] e in
    let rest : drop n texts ≡ text ∷ drop (suc n) texts = drop-cons texts n [] lt ∙ ap (λ (t : List ℕ). t ∷ drop (suc n) texts) at in
    let parts : texts ≡ take n texts ++ text ∷ drop (suc n) texts = sym (take-append-drop n texts) ∙ ap (λ (ts : List (List ℕ)). take n texts ++ ts) rest in
    record {
      before = text_section (take n texts);
      front = text ++ 0 ∷ [];
      after = text_section (drop (suc n) texts);
      spelled = record { no_zero = no_zero; parts = refl };
      length_before = refl;
      parts = ap text_section parts ∙ flat_map-append (λ (t : List ℕ). t ++ 0 ∷ []) (take n texts) (text ∷ drop (suc n) texts);
    }

pub start_here : (texts : List (List ℕ)) (text : List ℕ) (at : ℕ) → NoZero text → start_of texts text ≡ Some at → IsTextAt (text_section texts) at text
start_here texts text at no_zero e = go (text_number texts text) refl e where
  go : (o : Option ℕ) → text_number texts text ≡ o → option_map (start_of_number texts) o ≡ Some at → IsTextAt (text_section texts) at text
  go None none e = absurd cc
  go (Some n) some e =
      let same : start_of_number texts n ≡ at = cc in
      subst (λ (k : ℕ). IsTextAt (text_section texts) k text) same (text_starts texts text n no_zero (number_here texts text n some))
