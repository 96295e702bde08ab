-- Numbers and places of texts, each once: two tests that say the same find the same text.
use Rattle.std.proofs.Common.{◌≡◌, ℕ, suc, ◌+◌, Bool, true, false, cond, ltb, List, [], ◌∷◌, ◌++◌, length, take, Option, Some, None, is_some, refl, sym, ap, subst, ◌∙◌, arith, bytes_eq}
use Rattle.std.specs.List.{prefix_len}
use Rattle.std.specs.Option.{option_map}
use Rattle.std.specs.Prelude.{MatchOption, not}
use Rattle.std.proofs.lemmas.Bool.{le-ltb, lt-ltb, ltb-false, ltb-true}
use Rattle.std.proofs.lemmas.List.{length-append}
use Rattle.std.proofs.lemmas.Slice.Eq.{bytes_eq-Decides}
use Rattle.dwz_def_reading.specs.TextRows as rows
use Rattle.dwz_def_reading.specs.TextRows.{start_of, start_of_number, text_number, text_section}
use Rattle.dwz_def_tops.specs.Spots.{same_numbers}
use Rattle.dwz_def_tops.proofs.SpotLemmas.{numbers_same, numbers_true}
use Rattle.dwz_def_encoding.specs.Placing.{add_unless, has_text, path_index, text_place, with_common_text}

same_test : (text t : List ℕ) → bytes_eq text t ≡ same_numbers t text
same_test text t = go (same_numbers t text) refl (bytes_eq text t) refl where
  go : (b : Bool) → same_numbers t text ≡ b → (c : Bool) → bytes_eq text t ≡ c → c ≡ b
  go true e true f = refl
  go false e false f = refl
  go true e false f =
      (let same : text ≡ t = sym (numbers_true t text e) in
      let yes : bytes_eq text t ≡ true = (bytes_eq-Decides text t).1 same in sym f ∙ yes)
  go false e true f =
      (let same : text ≡ t = (bytes_eq-Decides text t).0 f in
      let yes : same_numbers t text ≡ true = subst (λ (w : List ℕ). same_numbers t w ≡ true) (sym same) (numbers_same t) in sym yes ∙ e)

abbrev first : List ℕ → List (List ℕ) → ℕ
first text texts = prefix_len (λ (t : List ℕ). not (bytes_eq text t)) texts

index_is : (text : List ℕ) (texts : List (List ℕ)) → first text texts ≡ path_index texts text
unfolding path_index
index_is text [] = refl
index_is text (t ∷ texts) =
    (λ i. cond (not (same_test text t i)) (1 + index_is text texts i) 0) ∙ go (same_numbers t text) where
      go : (b : Bool) → cond (not b) (1 + path_index texts text) 0 ≡ elim b as (λ _. ℕ) [ true ↦ 0 | false ↦ suc (path_index texts text) ]
      go true = refl
      go false = omega arith

behind_same : (a b : ℕ) → ltb a b ≡ ltb (suc a) (suc b)
behind_same a b = go (ltb a b) refl where
  go : (t : Bool) → ltb a b ≡ t → t ≡ ltb (suc a) (suc b)
  go true e = (let lt = ltb-true a b e in sym (lt-ltb (suc a) (suc b) (omega arith)))
  go false e = (let le = ltb-false a b e in sym (le-ltb (suc a) (suc b) (omega arith)))

has_is : (text : List ℕ) (texts : List (List ℕ)) → has_text texts text ≡ ltb (path_index texts text) (length texts)
unfolding has_text path_index
has_is text [] = sym (le-ltb 0 0 (omega arith))
has_is text (t ∷ texts) = go (has_is text texts) (same_numbers t text) where
  go : has_text texts text ≡ ltb (path_index texts text) (length texts) → (b : Bool)
      → elim b as (λ _. Bool) [ true ↦ true | false ↦ has_text texts text ]
      ≡ ltb (elim b as (λ _. ℕ) [ true ↦ 0 | false ↦ suc (path_index texts text) ]) (suc (length texts))
  go own true = sym (lt-ltb 0 (suc (length texts)) (omega arith))
  go own false = own ∙ behind_same (path_index texts text) (length texts)

place_is : (text : List ℕ) (texts : List (List ℕ)) → text_place texts text ≡ start_of_number texts (path_index texts text)
unfolding text_place path_index
place_is text [] = refl
place_is text (t ∷ texts) = go (place_is text texts) (same_numbers t text) where
  go : text_place texts text ≡ start_of_number texts (path_index texts text) → (b : Bool)
      → elim b as (λ _. ℕ) [ true ↦ 0 | false ↦ length t + 1 + text_place texts text ]
      ≡ start_of_number (t ∷ texts) (elim b as (λ _. ℕ) [ true ↦ 0 | false ↦ suc (path_index texts text) ])
  go own true = refl
  go own false =
      (let parts : start_of_number (t ∷ texts) (suc (path_index texts text))
      ≡ length (t ++ 0 ∷ []) + start_of_number texts (path_index texts text) =
      length-append (t ++ 0 ∷ []) (text_section (take (path_index texts text) texts)) in
      let one = length-append t (0 ∷ []) in
      omega arith)

number_is : (text : List ℕ) (texts : List (List ℕ)) → text_number texts text ≡ cond (has_text texts text) (Some (path_index texts text)) None
number_is text texts =
    (λ i. cond (ltb (index_is text texts i) (length texts)) (Some (index_is text texts i)) None)
    ∙ ap (λ (b : Bool). cond b (Some (path_index texts text)) None) (sym (has_is text texts))

-- ---- what is found

abbrev Matches : List (List ℕ) → List ℕ → ℕ → Option ℕ → Type 0
Matches texts text value o = MatchOption o (has_text texts text ≡ false) (λ n. (has_text texts text ≡ true) × (n ≡ value))

matches : (texts : List (List ℕ)) (text : List ℕ) (value : ℕ) → Matches texts text value (cond (has_text texts text) (Some value) None)
matches texts text value = go (has_text texts text) refl where
  go : (b : Bool) → has_text texts text ≡ b → Matches texts text value (cond b (Some value) None)
  go true e = (e, refl)
  go false e = e

pub number_found : (own texts : List (List ℕ)) (text : List ℕ) (o : Option ℕ) → own ≡ texts → o ≡ text_number own text
    → MatchOption o (has_text texts text ≡ false) (λ n. (has_text texts text ≡ true) × (n ≡ path_index texts text))
number_found own texts text o same is =
    subst (Matches texts text (path_index texts text)) (sym (is ∙ ap (λ (w : List (List ℕ)). text_number w text) same ∙ number_is text texts))
    (matches texts text (path_index texts text))

pub start_found : (own texts : List (List ℕ)) (text : List ℕ) (o : Option ℕ) → own ≡ texts → o ≡ start_of own text
    → MatchOption o (has_text texts text ≡ false) (λ n. (has_text texts text ≡ true) × (n ≡ text_place texts text))
start_found own texts text o same is =
    let found : start_of texts text ≡ cond (has_text texts text) (Some (text_place texts text)) None =
    ap (option_map (start_of_number texts)) (number_is text texts) ∙ go (has_text texts text) in
    subst (Matches texts text (text_place texts text)) (sym (is ∙ ap (λ (w : List (List ℕ)). start_of w text) same ∙ found))
    (matches texts text (text_place texts text)) where
      go : (b : Bool) → option_map (start_of_number texts) (cond b (Some (path_index texts text)) None)
          ≡ cond b (Some (text_place texts text)) None
      go true = ap (λ (n : ℕ). Some n) (sym (place_is text texts))
      go false = refl

-- ---- one more

pub same_with : (texts : List (List ℕ)) (text : List ℕ) → rows.with_text texts text ≡ with_common_text texts text
same_with texts text =
    ap (λ (o : Option ℕ). cond (is_some o) texts (texts ++ text ∷ [])) (number_is text texts) ∙ go (has_text texts text) where
      go : (b : Bool) → cond (is_some (cond b (Some (path_index texts text)) None)) texts (texts ++ text ∷ []) ≡ add_unless b texts text
      go true = refl
      go false = refl
