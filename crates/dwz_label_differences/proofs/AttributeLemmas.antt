-- The attributes of two entries, one by one.
use Rattle.std.proofs.Common.{◌≡◌, ℕ, suc, ◌+◌, ◌<◌, List, ◌++◌, length, drop, Some, slice_get, sym, ap, subst, ◌∙◌, inl, inr, arith, min}
use Rattle.std.specs.Prelude.{◌⊎◌}
use Rattle.std.specs.List.{flat_map}
use Rattle.std.proofs.lemmas.Bool.{cases_order}
use Rattle.std.proofs.lemmas.List.{append_assoc}
use Rattle.dwz_model.proofs.ListFacts.{drop_here, got_there}
use Rattle.dwz_def_reading.specs.Documents.{Attr}
use Rattle.dwz_def_tops.specs.Alike.{SameAttrs}
use Rattle.dwz_def_tops.specs.Spots.{EntryName}
use Rattle.dwz_def_explain.specs.Chain.{Whichever}
use Rattle.dwz_def_explain.specs.What.{IsFirstUnequal}
use Rattle.dwz_label.specs.Labels.{attr_label, each_counted}
use Rattle.dwz_label_differences.proofs.Numbers.{IsAfter, IsCount, each_count, IsAfterSome}
use Rattle.dwz_label_differences.proofs.PieceLemmas.{attr_some}
use Rattle.dwz_label_differences.proofs.SamePieces.{SameTo, attribute_of, of_attribute, same_all, same_more, same_short, same_unequal}

-- the first ones of two lists are the same, whose labels these begin with
abbrev pub AreSameTo : List ℕ → List ℕ → ℕ → Type 0
AreSameTo a b i = (xs ys : List (Attr EntryName)) (r s : List ℕ) → a ≡ each_counted attr_label xs ++ r → b ≡ each_counted attr_label ys ++ s → SameTo i xs ys

-- whether the two that stand first are the same
abbrev pub TellsSame : List ℕ → List ℕ → List ℕ → List ℕ → Type 0 → Type 0
TellsSame a a_left b b_left T = (x y : List ℕ) → a ≡ x ++ a_left → b ≡ y ++ b_left → (T → x ≡ y) × (x ≡ y → T)

-- the two attributes with a number, and what is left behind them
pub record PairAt (xs ys : List (Attr EntryName)) (a_left a_next b_left b_next : List ℕ) (i : ℕ) : Type 0 where
  pub x : Attr EntryName
  pub y : Attr EntryName
  pub x_there : slice_get xs i ≡ Some x
  pub y_there : slice_get ys i ≡ Some y
  pub a_is : a_left ≡ attr_label x ++ a_next
  pub b_is : b_left ≡ attr_label y ++ b_next

module _ (a b : List ℕ) (a_count b_count : ℕ) (a_is : IsCount a a_count) (b_is : IsCount b b_count) (a_left b_left : List ℕ) (i : ℕ)
    (a_behind : IsAfterSome attr_label a a_left i) (b_behind : IsAfterSome attr_label b b_left i) where
  one_there : (label left next : List ℕ) → IsAfterSome attr_label label left i → IsAfter attr_label left next → (xs : List (Attr EntryName)) (r : List ℕ) → i < length xs
      → label ≡ each_counted attr_label xs ++ r → (x : Attr EntryName) × (slice_get xs i ≡ Some x) × (left ≡ attr_label x ++ next)
  one_there label left next behind after xs r l e =
      let got = got_there xs i l in
      let parts = drop_here xs i got.0 got.1 in
      let whole : left ≡ attr_label got.0 ++ (flat_map attr_label (drop (i + 1) xs) ++ r) =
      behind xs r e ∙ ap (λ ys. flat_map attr_label ys ++ r) parts ∙ append_assoc (attr_label got.0) (flat_map attr_label (drop (i + 1) xs)) r in
      let rest = after got.0 (flat_map attr_label (drop (i + 1) xs) ++ r) whole in
      (got.0, got.1, whole ∙ ap (λ (w : List ℕ). attr_label got.0 ++ w) (sym rest))

  pair_at : (a_next b_next : List ℕ) → IsAfter attr_label a_left a_next → IsAfter attr_label b_left b_next → i < a_count → i < b_count → (xs ys : List (Attr EntryName)) (r s : List ℕ)
      → a ≡ each_counted attr_label xs ++ r → b ≡ each_counted attr_label ys ++ s → PairAt xs ys a_left a_next b_left b_next i
  pair_at a_next b_next a_after b_after l m xs ys r s d e =
      let j = each_count attr_label attr_some a a_count a_is xs r d in
      let k = each_count attr_label attr_some b b_count b_is ys s e in
      let p = one_there a a_left a_next a_behind a_after xs r (omega (arith, l, j)) d in
      let q = one_there b b_left b_next b_behind b_after ys s (omega (arith, m, k)) e in
      record { x = p.0; y = q.0; x_there = p.1; y_there = q.1; a_is = p.2; b_is = q.2 }

  pub one_more_same : (a_next b_next : List ℕ) (T : Type 0) → IsAfter attr_label a_left a_next → IsAfter attr_label b_left b_next → i < a_count → i < b_count
      → TellsSame a_left a_next b_left b_next T → T → AreSameTo a b i → AreSameTo a b (i + 1)
  one_more_same a_next b_next T a_after b_after l m tells is so_far = λ xs ys r s d e. (
      let p = pair_at a_next b_next a_after b_after l m xs ys r s d e in
      let labels = (tells (attr_label p.x) (attr_label p.y) p.a_is p.b_is).0 is in
      let next : suc i ≡ i + 1 = omega arith in
      subst (λ (k : ℕ). SameTo k xs ys) next (same_more i xs ys p.x p.y (so_far xs ys r s d e) p.x_there p.y_there (attribute_of p.x p.y labels)))

  pub one_unequal : (a_next b_next : List ℕ) (T : Type 0) → IsAfter attr_label a_left a_next → IsAfter attr_label b_left b_next → i < a_count → i < b_count
      → TellsSame a_left a_next b_left b_next T → (T → ⊥) → AreSameTo a b i → (xs ys : List (Attr EntryName)) (r s : List ℕ)
      → a ≡ each_counted attr_label xs ++ r → b ≡ each_counted attr_label ys ++ s → IsFirstUnequal i xs ys
  one_unequal a_next b_next T a_after b_after l m tells differ so_far xs ys r s d e =
      let p = pair_at a_next b_next a_after b_after l m xs ys r s d e in
      same_unequal i xs ys p.x p.y (so_far xs ys r s d e) p.x_there p.y_there
      (λ same. differ ((tells (attr_label p.x) (attr_label p.y) p.a_is p.b_is).1 (of_attribute p.x p.y same)))

  pub none_unequal : AreSameTo a b i → i ≡ a_count → i ≡ b_count → (xs ys : List (Attr EntryName)) (r s : List ℕ)
      → a ≡ each_counted attr_label xs ++ r → b ≡ each_counted attr_label ys ++ s → SameAttrs Whichever xs ys
  none_unequal so_far l m xs ys r s d e =
      let j = each_count attr_label attr_some a a_count a_is xs r d in
      let k = each_count attr_label attr_some b b_count b_is ys s e in
      same_all i xs ys (so_far xs ys r s d e) (sym j ∙ sym l) (sym k ∙ sym m)

  pub one_short : AreSameTo a b i → ((i ≡ a_count) × (i < b_count)) ⊎ ((i ≡ b_count) × (i < a_count)) → (xs ys : List (Attr EntryName)) (r s : List ℕ)
      → a ≡ each_counted attr_label xs ++ r → b ≡ each_counted attr_label ys ++ s → IsFirstUnequal i xs ys
  one_short so_far (inl h) xs ys r s d e =
      let j = each_count attr_label attr_some a a_count a_is xs r d in
      let k = each_count attr_label attr_some b b_count b_is ys s e in
      let u = h.0 in
      let v = h.1 in
      same_short i xs ys (so_far xs ys r s d e) (inl (omega (arith, j, u), omega (arith, k, v)))
  one_short so_far (inr h) xs ys r s d e =
      let j = each_count attr_label attr_some a a_count a_is xs r d in
      let k = each_count attr_label attr_some b b_count b_is ys s e in
      let u = h.0 in
      let v = h.1 in
      same_short i xs ys (so_far xs ys r s d e) (inr (omega (arith, k, u), omega (arith, j, v)))

  pub one_left : AreSameTo a b i → i ≡ min a_count b_count → (a_count ≡ b_count → ⊥) → (xs ys : List (Attr EntryName)) (r s : List ℕ)
      → a ≡ each_counted attr_label xs ++ r → b ≡ each_counted attr_label ys ++ s → IsFirstUnequal i xs ys
  one_left so_far is other = elim (cases_order a_count b_count) [
    | inl same ↦ absurd (other same)
    | inr (inl less) ↦ one_short so_far (inl (omega (arith, is, less), omega (arith, is, less)))
    | inr (inr more) ↦ one_short so_far (inr (omega (arith, is, more), omega (arith, is, more)))
  ]
