-- One text more: it is found under its number, and each other text as before.
use Rattle.std.proofs.Common.{◌≡◌, ℕ, zero, suc, ◌+◌, Bool, true, false, cond, eqb, List, [], ◌∷◌, ◌++◌, length, Option, Some, None, IsSome, slice_get, refl, sym, ap, subst, ◌∙◌, inl, inr, bytes_eq}
use Rattle.std.specs.List.{position_or_len}
use Rattle.std.proofs.lemmas.Bool.{cases_Bool, eqb-true, eq-eqb, false_from_ne_true}
use Rattle.std.proofs.lemmas.List.{length-append}
use Rattle.std.proofs.lemmas.List.Folds.{position_or_len_push}
use Rattle.std.proofs.lemmas.Slice.Eq.{bytes_eq-Decides}
use Rattle.dwz_def_reading.specs.TextRows.{text_number}
use Rattle.dwz_def_reading.proofs.ListFacts.{get_last}
use Rattle.dwz_def_reading.proofs.TextRowLemmas.{first_nowhere, first_stays, new_number, place_of_none, same_text}
use Rattle.dwz_pool.specs.declared.numbers.Numbers.{Numbers}
use Rattle.dwz_pool.specs.Numbered.{AreNumbered, IsAdded, IsFirst, IsOther, first_in, found_from, found_in, is_text, other_in, text_hash}

none_is_some : {X : Type 0} {x : X} → None ≡ Some x → ⊥
none_is_some e = cc

module _ (texts : List (List ℕ)) (text : List ℕ) where
  abbrev more : List (List ℕ)
  more = texts ++ text ∷ []

  -- ---- another text

  module _ (other : List ℕ) (differ : bytes_eq text other ≡ false) where
    turned : bytes_eq other text ≡ false
    turned = false_from_ne_true (bytes_eq other text) (λ same. by ((bytes_eq-Decides text other).1 (sym ((bytes_eq-Decides other text).0 same)))) where
      by : bytes_eq text other ≡ true → ⊥
      by same = cc

    number_stays : text_number more other ≡ text_number texts other
    number_stays = go (text_number texts other) refl where
      go : (o : Option ℕ) → text_number texts other ≡ o → text_number more other ≡ text_number texts other
      go (Some n) e = first_stays (bytes_eq other) texts n text e ∙ sym e
      go None e =
          let before = position_or_len (bytes_eq other) texts in
          let last = eq-eqb before (length texts) (place_of_none (bytes_eq other) texts e) in
          let place = position_or_len_push (bytes_eq other) texts text ∙ ap (λ (b : Bool). cond b (length texts + cond (bytes_eq other text) 0 1) before) last
          ∙ ap (λ (b : Bool). length texts + cond b 0 1) turned in
          first_nowhere (bytes_eq other) more (place ∙ sym (length-append texts (text ∷ []))) ∙ sym e

    found_stays : (first rest : Option ℕ) → found_from more first rest other ≡ found_from texts first rest other
    found_stays None rest = refl
    found_stays (Some n) rest = ap (λ (b : Bool). cond b (Some n) rest) (test texts n) where
      test : (ts : List (List ℕ)) (n : ℕ) → is_text (slice_get (ts ++ text ∷ []) n) other ≡ is_text (slice_get ts n) other
      test [] zero = differ
      test [] (suc n) = refl
      test (t ∷ ts) zero = refl
      test (t ∷ ts) (suc n) = test ts n

  -- ---- the text itself

  -- it is at the last place, if it wasn't there before
  last_place : (ts : List (List ℕ)) (n : ℕ) → is_text (slice_get (ts ++ text ∷ []) n) text ≡ true → is_text (slice_get ts n) text ≡ false → n ≡ length ts
  last_place [] zero now before = refl
  last_place [] (suc n) now before = absurd cc
  last_place (t ∷ ts) zero now before = absurd cc
  last_place (t ∷ ts) (suc n) now before = ap suc (last_place ts n now before)

  found_last : (n : ℕ) (rest : Option ℕ) → found_from texts (Some n) rest text ≡ None → found_from more (Some n) (Some (length texts)) text ≡ Some (length texts)
  found_last n rest none = elim (cases_Bool (is_text (slice_get more n) text)) [
    | inl now ↦ ap (λ (b : Bool). cond b (Some n) (Some (length texts))) now ∙ ap Some (last_place texts n now before)
    | inr not_now ↦ ap (λ (b : Bool). cond b (Some n) (Some (length texts))) not_now
  ] where
    before : is_text (slice_get texts n) text ≡ false
    before = false_from_ne_true _ (λ is. none_is_some (sym none ∙ ap (λ (b : Bool). cond b (Some n) rest) is))

  module _ (old new : Numbers) (numbered : AreNumbered texts old) (is_new : text_number texts text ≡ None) where
    abbrev hash : ℕ
    hash = text_hash text

    module _ (first : IsFirst old new hash (length texts)) where
      -- what is kept for a hash, by whether it is that of the text
      first_here : (other : ℕ) → eqb hash other ≡ true → first_in new other ≡ Some (length texts)
      first_here other same = first.firsts other ∙ ap (λ (b : Bool). cond b (Some (length texts)) (first_in old other)) same

      first_there : (other : ℕ) → eqb hash other ≡ false → first_in new other ≡ first_in old other
      first_there other differ = first.firsts other ∙ ap (λ (b : Bool). cond b (Some (length texts)) (first_in old other)) differ

      was_none : (other : ℕ) → eqb hash other ≡ true → first_in old other ≡ None
      was_none other same = subst (λ (h : ℕ). first_in old h ≡ None) (eqb-true hash other same) first.is_new

      last_is : (other : List ℕ) (rest : Option ℕ) → found_from more (Some (length texts)) rest other ≡ cond (bytes_eq text other) (Some (length texts)) rest
      last_is other rest = ap (λ (o : Option (List ℕ)). cond (is_text o other) (Some (length texts)) rest) (get_last texts text)

      found_first : (other : List ℕ) → found_in more new (text_hash other) other ≡ text_number more other
      found_first other = elim (cases_Bool (bytes_eq text other)) [
        | inl same ↦ subst (λ (t : List ℕ). found_in more new (text_hash t) t ≡ text_number more t) ((bytes_eq-Decides text other).0 same)
            (ap (λ (o : Option ℕ). found_from more o (other_in new text) text) (first_here hash (eq-eqb hash hash refl))
            ∙ last_is text (other_in new text) ∙ ap (λ (b : Bool). cond b (Some (length texts)) (other_in new text)) (same_text text)
            ∙ sym (new_number texts text is_new))
        | inr differ ↦ elim (cases_Bool (eqb hash (text_hash other))) [
          | inl alike ↦
              let none = was_none (text_hash other) alike in
              ap (λ (o : Option ℕ). found_from more o (other_in new other) other) (first_here (text_hash other) alike)
              ∙ last_is other (other_in new other) ∙ ap (λ (b : Bool). cond b (Some (length texts)) (other_in new other)) differ
              ∙ first.others other ∙ numbered.behind other none
              ∙ ap (λ (o : Option ℕ). found_from texts o (other_in old other) other) (sym none)
              ∙ numbered.found other ∙ sym (number_stays other differ)
          | inr apart ↦
              (λ j. found_from more (first_there (text_hash other) apart j) (first.others other j) other)
              ∙ found_stays other differ (first_in old (text_hash other)) (other_in old other)
              ∙ numbered.found other ∙ sym (number_stays other differ)
        ]
      ]

      numbered_first : AreNumbered more new
      numbered_first = record {
        found = found_first;
        behind = λ other none. elim (cases_Bool (eqb hash (text_hash other))) [
          | inl alike ↦ absurd (none_is_some (sym none ∙ first_here (text_hash other) alike))
          | inr apart ↦ first.others other ∙ numbered.behind other (sym (first_there (text_hash other) apart) ∙ none)
        ];
      }

    module _ (behind : IsOther old new hash text (length texts)) where
      other_here : (other : List ℕ) → bytes_eq text other ≡ true → other_in new other ≡ Some (length texts)
      other_here other same = behind.others other ∙ ap (λ (b : Bool). cond b (Some (length texts)) (other_in old other)) same

      other_there : (other : List ℕ) → bytes_eq text other ≡ false → other_in new other ≡ other_in old other
      other_there other differ = behind.others other ∙ ap (λ (b : Bool). cond b (Some (length texts)) (other_in old other)) differ

      found_here : found_in more new hash text ≡ Some (length texts)
      found_here = (λ j. found_from more (behind.firsts hash j) (other_here text (same_text text) j) text) ∙ go (first_in old hash) behind.is_there refl where
        go : (o : Option ℕ) → IsSome o → first_in old hash ≡ o → found_from more o (Some (length texts)) text ≡ Some (length texts)
        go None is_there e = absurd cc
        go (Some n) is_there e = found_last n (other_in old text) (ap (λ (o : Option ℕ). found_from texts o (other_in old text) text) (sym e) ∙ numbered.found text ∙ is_new)

      found_other : (other : List ℕ) → found_in more new (text_hash other) other ≡ text_number more other
      found_other other = elim (cases_Bool (bytes_eq text other)) [
        | inl same ↦ subst (λ (t : List ℕ). found_in more new (text_hash t) t ≡ text_number more t) ((bytes_eq-Decides text other).0 same)
            (found_here ∙ sym (new_number texts text is_new))
        | inr differ ↦
            (λ j. found_from more (behind.firsts (text_hash other) j) (other_there other differ j) other)
            ∙ found_stays other differ (first_in old (text_hash other)) (other_in old other)
            ∙ numbered.found other ∙ sym (number_stays other differ)
      ]

      numbered_other : AreNumbered more new
      numbered_other = record {
        found = found_other;
        behind = λ other none.
            let was : first_in old (text_hash other) ≡ None = sym (behind.firsts (text_hash other)) ∙ none in
            elim (cases_Bool (bytes_eq text other)) [
              | inl same ↦
                  let alike = ap (λ (t : List ℕ). first_in old (text_hash t)) ((bytes_eq-Decides text other).0 same) in
                  let is_there : false ≡ true = subst (λ (o : Option ℕ). IsSome o) (alike ∙ was) behind.is_there in
                  absurd cc
              | inr differ ↦ other_there other differ ∙ numbered.behind other was
            ];
      }

    pub numbered_more : IsAdded old new hash text (length texts) → AreNumbered more new
    numbered_more added = elim added [
      | inl first ↦ numbered_first first
      | inr behind ↦ numbered_other behind
    ]
