-- Each name that is new gets the number of its space; one that was met has the number that it got.
use Rattle.std.proofs.Common.{◌≡◌, ℕ, ◌+◌, ◌<◌, ◌≤◌, Bool, true, false, cond, List, [], ◌∷◌, ◌++◌, length, Option, Some, None, slice_index, refl, sym, ap, subst, ◌∙◌, inl, inr, arith}
use denote.Ref.{Bor}
use Rattle.std.specs.BTreeMap.{BTreeMap}
use Rattle.std.specs.Str.{bytes_eq}
use Rattle.std.proofs.lemmas.Bool.Decides.{eqb_tells}
use Rattle.std.proofs.lemmas.List.{get_or_append_left, get_or_push, length-append}
use Rattle.std.proofs.lemmas.Slice.Eq.{bytes_eq-Decides}
use Rattle.dwz_graph.specs.declared.index.SpaceEntry.{SpaceEntry}
use Rattle.dwz_def_tops.specs.Spots.{SpaceName}
use Rattle.dwz_layout_order.specs.Lists.{rows_from}
use Rattle.dwz_layout_order.specs.Shown.{NumbersTexts, text_of}
use Rattle.dwz_layout_order.proofs.ChainShown.{rows_long}
use Rattle.dwz_layout_input.specs.Names.{HaveNumbers, IsFound, look}

pub none_numbered : (names : ℕ → List ℕ) (found : List ℕ → Option ℕ) → ((text : List ℕ) → found text ≡ None) → HaveNumbers names [] found
none_numbered names found none = record { under = λ j lt. absurd (omega arith); own = λ text n e. absurd (let f = sym (none text) ∙ e in cc) }

pub none_found : (m : BTreeMap (Bor (List ℕ)) ℕ) → m.entries ≡ [] → (text : List ℕ) → look m text ≡ None
none_found m e text = rw e refl

module _ (names : ℕ → List ℕ) (texts : List ℕ) (old after : List ℕ → Option ℕ) (number : ℕ) (h : HaveNumbers names texts old)
    (put : IsFound old after (names (length texts)) (length texts) number) where
  abbrev n : ℕ
  n = length texts

  abbrev more : List ℕ
  more = texts ++ number ∷ []

  long : length more ≡ n + 1
  long = length-append texts (number ∷ [])

  old_at : (j : ℕ) → j < n → slice_index more j ≡ slice_index texts j
  old_at j lt = get_or_append_left texts (number ∷ []) 0 j lt

  new_at : slice_index more n ≡ number
  new_at = get_or_push texts number 0 n refl

  -- the name of the number is this one
  same : names number ≡ names n
  same = elim put [
    | inl p ↦ (h.own (names n) number p.0).1
    | inr p ↦ ap names p.1
  ]

  low : number ≤ n
  low = elim put [
    | inl p ↦ (let lt = (h.own (names n) number p.0).0 in omega arith)
    | inr p ↦ (let e = p.1 in omega arith)
  ]

  here : after (names n) ≡ Some number
  here = elim put [
    | inl p ↦ p.1 (names n) ∙ p.0
    | inr p ↦ p.2 (names n) ∙ ap (λ (b : Bool). cond b (Some n) (old (names n))) ((bytes_eq-Decides (names n) (names n)).1 refl) ∙ ap Some (sym p.1)
  ]

  kept : (text : List ℕ) (m : ℕ) → old text ≡ Some m → after text ≡ Some m
  kept text m e = elim put [
    | inl p ↦ p.1 text ∙ e
    | inr p ↦ p.2 text ∙ by (bytes_eq (names n) text) refl p.0
  ]
    where
      by : (b : Bool) → bytes_eq (names n) text ≡ b → old (names n) ≡ None → cond b (Some n) (old text) ≡ Some m
      by true t none = absurd (let is = (bytes_eq-Decides (names n) text).0 t in let f = sym none ∙ ap old is ∙ e in cc)
      by false t none = e

  back : (text : List ℕ) (m : ℕ) → after text ≡ Some m → (m < n + 1) × (names m ≡ text)
  back text m e = elim put [
    | inl p ↦ (let o = h.own text m (sym (p.1 text) ∙ e) in (let lt = o.0 in omega arith, o.1))
    | inr p ↦ by (bytes_eq (names n) text) refl (sym (p.2 text) ∙ e)
  ]
    where
      by : (b : Bool) → bytes_eq (names n) text ≡ b → cond b (Some n) (old text) ≡ Some m → (m < n + 1) × (names m ≡ text)
      by true t q = (let is : n ≡ m = cc in (omega arith, ap names (sym is) ∙ (bytes_eq-Decides (names n) text).0 t))
      by false t q = (let o = h.own text m q in (let lt = o.0 in omega arith, o.1))

  pub numbered_more : HaveNumbers names more after
  numbered_more = record {
    under = λ j lt. elim (eqb_tells j n) [
      | inl p ↦ ap (λ (i : ℕ). after (names i)) p.1 ∙ here ∙ ap Some (sym new_at ∙ ap (slice_index more) (sym p.1))
      | inr p ↦ (let differ = p.1 in let less : j < n = omega (arith, long) in kept (names j) (slice_index texts j) (h.under j less) ∙ ap Some (sym (old_at j less)))
    ];
    own = λ text m e. (let r = back text m e in (let lt = r.0 in omega (arith, long), r.1));
  }

-- the next name, which is that of the next number
pub numbered_next : (names : ℕ → List ℕ) (texts new : List ℕ) (old after : List ℕ → Option ℕ) (text : List ℕ) (next at number : ℕ) → HaveNumbers names texts old → next ≡ length texts
    → at ≡ length texts → text ≡ names at → IsFound old after text next number
    → new ≡ texts ++ number ∷ [] → HaveNumbers names new after
numbered_next names texts new old after text next at number h n_is at_is text_is put is =
    let name : text ≡ names (length texts) = text_is ∙ ap names at_is in
    subst (λ (w : List ℕ). HaveNumbers names w after) (sym is)
    (numbered_more names texts old after number h (subst (λ (w : List ℕ). IsFound old after w (length texts) number) name (subst (λ (k : ℕ). IsFound old after text k number) n_is put)))

-- ---- all of them

pub all_numbered : (said : ℕ → SpaceName) (spaces : List SpaceEntry) (texts : List ℕ) (found : List ℕ → Option ℕ) → length texts ≡ length spaces → HaveNumbers (λ k. text_of (said k)) texts found
    → NumbersTexts (rows_from 0 spaces) said texts
all_numbered said spaces texts found long h = record {
  same = λ j k lj lk. (
      let all = rows_long 0 spaces in
      let a : j < length texts = omega arith in
      let b : k < length texts = omega arith in
      let under_j = h.under j a in
      let under_k = h.under k b in
      let own_j = h.own (text_of (said j)) (slice_index texts j) under_j in
      let own_k = h.own (text_of (said k)) (slice_index texts k) under_k in (
        λ e. sym own_j.1 ∙ ap (λ (i : ℕ). text_of (said i)) e ∙ own_k.1,
        λ e. (let both : Some (slice_index texts j) ≡ Some (slice_index texts k) = sym under_j ∙ ap found e ∙ under_k in cc),
      ));
}
