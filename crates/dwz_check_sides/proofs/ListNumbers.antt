-- One more name and one more list.
use Rattle.std.proofs.Common.{◌≡◌, ◌⊎◌, ℕ, ◌+◌, ◌*◌, ◌^◌, ◌<◌, ◌≤◌, Bool, true, false, cond, List, [], ◌∷◌, ◌++◌, Option, Some, None, reverse, refl, sym, ap, subst, ◌∙◌, inl, inr, arith}
use Rattle.std.specs.BTreeMap.{BTreeMap, get}
use Rattle.std.specs.Ordering.{nat_cmp}
use Rattle.std.specs.Str.{bytes_eq}
use Rattle.std.proofs.lemmas.Bool.Decides.{eqb_tells}
use Rattle.std.proofs.lemmas.List.{reverse-append, reverse-reverse}
use Rattle.std.proofs.lemmas.Slice.Eq.{bytes_eq-Decides}
use Rattle.dwz_check_sides.specs.declared.lists.NameLists.{NameLists}
use Rattle.dwz_check_sides.specs.Names.{AreApart, IsFound, IsListNumber, IsNumberBy, IsNumberFrom, IsNumberUnder, Keeps, list_number, look, name_number}
use Rattle.dwz_check_sides.specs.SideLaws.{KeptNumberLaw, ListNumberLaw}

-- ---- names

module _ (old after : List ℕ → Option ℕ) (text : List ℕ) (new number : ℕ) (put : IsFound old after text new number) where
  found_here : after text ≡ Some number
  found_here = elim put [
    | inl p ↦ p.1 text ∙ p.0
    | inr p ↦ p.2 text ∙ ap (λ (b : Bool). cond b (Some new) (old text)) ((bytes_eq-Decides text text).1 refl) ∙ ap Some (sym p.1)
  ]

  found_kept : (q : List ℕ) (n : ℕ) → old q ≡ Some n → after q ≡ Some n
  found_kept q n e = elim put [
    | inl p ↦ p.1 q ∙ e
    | inr p ↦ p.2 q ∙ by (bytes_eq text q) refl p.0
  ]
    where
      by : (b : Bool) → bytes_eq text q ≡ b → old text ≡ None → cond b (Some new) (old q) ≡ Some n
      by true t none = absurd (let is = (bytes_eq-Decides text q).0 t in let f = sym none ∙ ap old is ∙ e in cc)
      by false t none = e

  found_back : (q : List ℕ) (n : ℕ) → after q ≡ Some n → (old q ≡ Some n) ⊎ ((text ≡ q) × (n ≡ new))
  found_back q n e = elim put [
    | inl p ↦ inl (sym (p.1 q) ∙ e)
    | inr p ↦ by (bytes_eq text q) refl (sym (p.2 q) ∙ e)
  ]
    where
      by : (b : Bool) → bytes_eq text q ≡ b → cond b (Some new) (old q) ≡ Some n → (old q ≡ Some n) ⊎ ((text ≡ q) × (n ≡ new))
      by true t g = inr ((bytes_eq-Decides text q).0 t, cc)
      by false t g = inl g

-- ---- lists

module _ (old new : BTreeMap ℕ ℕ) (key fresh number : ℕ) (put : IsNumberUnder old new key fresh number) where
  number_by : (o : Option ℕ) → get nat_cmp old key ≡ o → IsNumberBy o fresh number
  number_by o e = subst (λ (w : Option ℕ). IsNumberBy w fresh number) e put.is

  under_kept : (k n : ℕ) → get nat_cmp old k ≡ Some n → get nat_cmp new k ≡ Some n
  under_kept k n e = elim (eqb_tells k key) [
    | inl q ↦ ap (get nat_cmp new) q.1 ∙ put.under ∙ ap Some (number_by (Some n) (ap (get nat_cmp old) (sym q.1) ∙ e))
    | inr q ↦ put.others k q.1 ∙ e
  ]

  under_back : (k n : ℕ) → get nat_cmp new k ≡ Some n → (get nat_cmp old k ≡ Some n) ⊎ ((key ≡ k) × (n ≡ fresh))
  under_back k n e = elim (eqb_tells k key) [
    | inl q ↦ by (get nat_cmp old key) refl (let f : Some number ≡ Some n = sym put.under ∙ ap (get nat_cmp new) (sym q.1) ∙ e in cc) (sym q.1)
    | inr q ↦ inl (sym (put.others k q.1) ∙ e)
  ]
    where
      by : (o : Option ℕ) → get nat_cmp old key ≡ o → number ≡ n → key ≡ k → (get nat_cmp old k ≡ Some n) ⊎ ((key ≡ k) × (n ≡ fresh))
      by None h is same = inr (same, sym is ∙ number_by None h)
      by (Some m) h is same = inl (ap (get nat_cmp old) (sym same) ∙ h ∙ ap Some (sym (number_by (Some m) h) ∙ is))

-- ---- one more list

pub kept_from : (old new : NameLists) → Keeps old new → (names : List (List ℕ)) (n : ℕ) → IsNumberFrom old names n → IsNumberFrom new names n
kept_from old new k [] n h = h
kept_from old new k (name ∷ outer) n h = (h.0, h.1, kept_from old new k outer h.0 h.2, k.names name h.1 h.3, k.lists (h.0 * 2 ^ 32 + h.1) n h.4)

module _ (old new : NameLists) (outer : ℕ) (name : List ℕ) (fresh last number : ℕ) (found : IsFound (look old.names) (look new.names) name fresh last)
    (under : IsNumberUnder old.lists new.lists (outer * 2 ^ 32 + last) fresh number) where
  pub keeps : Keeps old new
  keeps = record {
    names = λ q n e. found_kept (look old.names) (look new.names) name fresh last found q n e;
    lists = λ k n e. under_kept old.lists new.lists (outer * 2 ^ 32 + last) fresh number under k n e;
  }

  pub apart : 0 < fresh → AreApart old fresh → AreApart new (fresh + 1)
  apart some h = record {
    names_low = λ q n e. elim (found_back (look old.names) (look new.names) name fresh last found q n e) [
      | inl a ↦ (let l = h.names_low q n a in omega arith)
      | inr a ↦ (let l = a.1 in omega arith)
    ];
    names_one = λ q r n e f. elim (found_back (look old.names) (look new.names) name fresh last found q n e) [
      | inl a ↦ elim (found_back (look old.names) (look new.names) name fresh last found r n f) [
        | inl b ↦ h.names_one q r n a b
        | inr b ↦ absurd (let l = h.names_low q n a in let m = b.1 in omega arith)
      ]
      | inr a ↦ elim (found_back (look old.names) (look new.names) name fresh last found r n f) [
        | inl b ↦ absurd (let l = h.names_low r n b in let m = a.1 in omega arith)
        | inr b ↦ sym a.0 ∙ b.0
      ]
    ];
    lists_low = λ k n e. elim (under_back old.lists new.lists (outer * 2 ^ 32 + last) fresh number under k n e) [
      | inl a ↦ (let l = h.lists_low k n a in (l.0, (let m = l.1 in omega arith)))
      | inr a ↦ (let m = a.1 in (omega arith, omega arith))
    ];
    lists_one = λ k l n e f. elim (under_back old.lists new.lists (outer * 2 ^ 32 + last) fresh number under k n e) [
      | inl a ↦ elim (under_back old.lists new.lists (outer * 2 ^ 32 + last) fresh number under l n f) [
        | inl b ↦ h.lists_one k l n a b
        | inr b ↦ absurd (let m = (h.lists_low k n a).1 in let o = b.1 in omega arith)
      ]
      | inr a ↦ elim (under_back old.lists new.lists (outer * 2 ^ 32 + last) fresh number under l n f) [
        | inl b ↦ absurd (let m = (h.lists_low l n b).1 in let o = a.1 in omega arith)
        | inr b ↦ sym a.0 ∙ b.0
      ]
    ];
  }

  pub numbered : (names : List (List ℕ)) → IsListNumber old names outer → IsListNumber new (names ++ name ∷ []) number
  numbered names h =
      subst (λ (w : List (List ℕ)). IsNumberFrom new w number) (sym (reverse-append names (name ∷ [])))
      (outer, last, kept_from old new keeps (reverse names) outer h, found_here (look old.names) (look new.names) name fresh last found, under.under)

-- no names and no lists
pub none_apart : (known : NameLists) → ((name : List ℕ) → name_number known name ≡ None) → ((key : ℕ) → get nat_cmp known.lists key ≡ None) → AreApart known 1
none_apart known names lists = record {
  names_low = λ q n e. absurd (let f = sym (names q) ∙ e in cc);
  names_one = λ q r n e. absurd (let f = sym (names q) ∙ e in cc);
  lists_low = λ k n e. absurd (let f = sym (lists k) ∙ e in cc);
  lists_one = λ k l n e. absurd (let f = sym (lists k) ∙ e in cc);
}

-- ---- laws

one_number : (known : NameLists) (names : List (List ℕ)) (n m : ℕ) → IsNumberFrom known names n → IsNumberFrom known names m → n ≡ m
one_number known [] n m a b = a ∙ sym b
one_number known (name ∷ outer) n m a b =
    let o : a.0 ≡ b.0 = one_number known outer a.0 b.0 a.2 b.2 in
    let s : Some a.1 ≡ Some b.1 = sym a.3 ∙ b.3 in
    let k : a.1 ≡ b.1 = cc in
    let both : Some n ≡ Some m = sym a.4 ∙ (λ i. list_number known (o i) (k i)) ∙ b.4 in
    cc

module _ (known : NameLists) (bound : ℕ) (low : bound ≤ 2 ^ 32) (h : AreApart known bound) where
  same_parts : (a b x y : ℕ) → x < bound → y < bound → a * 2 ^ 32 + x ≡ b * 2 ^ 32 + y → (a ≡ b) × (x ≡ y)
  same_parts a b x y p q e = (omega (arith, low, p, q, e), omega (arith, low, p, q, e))

  one_list : (names others : List (List ℕ)) (n : ℕ) → IsNumberFrom known names n → IsNumberFrom known others n → names ≡ others
  one_list [] [] n a b = refl
  one_list [] (y ∷ others) n a b = absurd (let l = (h.lists_low (b.0 * 2 ^ 32 + b.1) n b.4).0 in omega (arith, l, a))
  one_list (x ∷ names) [] n a b = absurd (let l = (h.lists_low (a.0 * 2 ^ 32 + a.1) n a.4).0 in omega (arith, l, b))
  one_list (x ∷ names) (y ∷ others) n a b =
      let key = h.lists_one (a.0 * 2 ^ 32 + a.1) (b.0 * 2 ^ 32 + b.1) n a.4 b.4 in
      let p = same_parts a.0 b.0 a.1 b.1 (h.names_low x a.1 a.3) (h.names_low y b.1 b.3) key in
      let text : x ≡ y = h.names_one x y b.1 (a.3 ∙ ap Some p.1) b.3 in
      let rest : names ≡ others = one_list names others b.0 (subst (λ (k : ℕ). IsNumberFrom known names k) p.0 a.2) b.2 in
      (λ i. text i ∷ rest i)

pub list_numbers : ListNumberLaw
list_numbers known bound low h names others n m a b = (
  (λ e. sym (reverse-reverse names)
      ∙ ap reverse (one_list known bound low h (reverse names) (reverse others) m (subst (λ (k : ℕ). IsNumberFrom known (reverse names) k) e a) b)
      ∙ reverse-reverse others),
  (λ e. one_number known (reverse others) n m (subst (λ (w : List (List ℕ)). IsNumberFrom known (reverse w) n) e a) b),
)

pub kept_numbers : KeptNumberLaw
kept_numbers = record {
  numbers = λ old new k names n h. kept_from old new k (reverse names) n h;
  steps = λ old now new a b. record { names = λ q n e. b.names q n (a.names q n e); lists = λ k n e. b.lists k n (a.lists k n e) };
}
