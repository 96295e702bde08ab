-- Looking a use up among ascending ones, and that their order and number don't matter for what stays.
use Rattle.std.proofs.Common.{◌≡◌, ◌⊎◌, ℕ, ◌<◌, ◌≤◌, Bool, true, false, eqb, List, length, get_or, position, take, Option, Some, None, Result, Ok, Err, IfOk, IsSome, All, Contains, refl, sym, ap}
use Rattle.std.proofs.Common.{subst, ◌∙◌, inl, inr, arith}
use Rattle.std.specs.Prelude.{SomeIff}
use Rattle.std.specs.Option.{option_map}
use Rattle.std.specs.List.{list_any}
use Rattle.std.specs.List.Sorted.{IsStrictlyIncreasing}
use Rattle.std.proofs.lemmas.Bool.{cases_lt, eq-eqb, eqb-true, false≢true, ne_eqb}
use Rattle.std.proofs.lemmas.List.{get_or_default}
use Rattle.std.proofs.lemmas.List.Elements.{Contains-get_or}
use Rattle.std.proofs.lemmas.List.Folds.{Any-from_list_any, list_any-from_Any}
use Rattle.std.proofs.lemmas.List.Kept.{AllPairs-from_increasing}
use Rattle.std.proofs.lemmas.List.Quantifiers.{position-Some}
use Rattle.std.proofs.lemmas.List.Sums.{position_or_len_is}
use Rattle.dwz_def_reading.specs.Pruning.{is_in_range, is_kept, new_number}
use Rattle.dwz_def_reading.specs.Texts.{text_at}
use Rattle.dwz_def_reading.proofs.TextRowLemmas.{first_at}
use Rattle.dwz_def_reading.proofs.PruneLemmas.{same_kept}
use Rattle.dwz_strs.specs.Pruned.{IsPruned, Pruning, RisesAlong, moved_in, pruning}

-- ---- looking up

pub rising : (uses : List ℕ) → IsStrictlyIncreasing uses → (i j : ℕ) → i ≤ j → j < length uses → get_or uses i 0 ≤ get_or uses j 0
rising uses rises i j le lt = go (cases_lt i j) where
  go : (i < j) ⊎ (j ≤ i) → get_or uses i 0 ≤ get_or uses j 0
  go (inl less) = let pair = AllPairs-from_increasing uses rises i j 0 less lt in omega (arith, pair)
  go (inr more) = let same : i ≡ j = omega (arith, le, more) in omega (arith, ap (λ (k : ℕ). get_or uses k 0) same)

module _ (bytes uses numbers : List ℕ) (along : RisesAlong uses numbers) (offset : ℕ) where
  pub found : (place n : ℕ) → place < length uses → get_or uses place 0 ≡ offset → n ≡ get_or numbers place n → Some n ≡ moved_in (pruning bytes uses numbers) offset
  found place n lt at is =
      let before : (k : ℕ) → k < place → eqb (get_or uses k 0) offset ≡ false = λ k less.
      ne_eqb (get_or uses k 0) offset (λ (same : get_or uses k 0 ≡ offset). let pair = AllPairs-from_increasing uses along.rises k place 0 less lt in omega (arith, pair, same, at)) in
      let here : position (λ (u : ℕ). eqb u offset) uses ≡ Some place =
      first_at (λ (u : ℕ). eqb u offset) uses place (position_or_len_is (λ (u : ℕ). eqb u offset) uses place 0 (omega (arith, lt)) before (λ _. eq-eqb (get_or uses place 0) offset at)) lt in
      ap (λ (m : ℕ). Some m) (is ∙ get_or_default numbers place n 0 (omega (arith, lt, along.long))) ∙ ap (option_map (λ (k : ℕ). get_or numbers k 0)) (sym here)

  pub missing : (i : ℕ) → ((k : ℕ) → k < i → get_or uses k 0 < offset) → ((k : ℕ) → i ≤ k → k < length uses → offset < get_or uses k 0) → None ≡ moved_in (pruning bytes uses numbers) offset
  missing i below above = go (position (λ (u : ℕ). eqb u offset) uses) refl where
    go : (o : Option ℕ) → position (λ (u : ℕ). eqb u offset) uses ≡ o → None ≡ moved_in (pruning bytes uses numbers) offset
    go None none = ap (option_map (λ (k : ℕ). get_or numbers k 0)) (sym none)
    go (Some k) some =
        let p = position-Some (λ (u : ℕ). eqb u offset) uses k 0 some in
        let at : get_or uses k 0 ≡ offset = eqb-true (get_or uses k 0) offset p.1 in
        absurd (side k (cases_lt k i) p.0 at)
      where
        side : (k : ℕ) → (k < i) ⊎ (i ≤ k) → k < length uses → get_or uses k 0 ≡ offset → ⊥
        side k (inl less) lt at = omega (arith, below k less, at)
        side k (inr more) lt at = omega (arith, above k more lt, at)

-- ---- the same uses

module _ (section xs ys : List ℕ) (to : (u : ℕ) → Contains xs u → Contains ys u) (back : (u : ℕ) → Contains ys u → Contains xs u) where
  one_way : (p : ℕ → Bool) (us vs : List ℕ) → ((u : ℕ) → Contains us u → Contains vs u) → list_any p us ≡ true → list_any p vs ≡ true
  one_way p us vs through e =
      let a = Any-from_list_any p us e in
      let c = through a.1 (a.0, a.2, a.3) in
      list_any-from_Any p vs (c.0, a.1, c.1, c.2, a.4)

  same_any : (p : ℕ → Bool) → list_any p xs ≡ list_any p ys
  same_any p = go (list_any p xs) (list_any p ys) refl refl where
    go : (a b : Bool) → list_any p xs ≡ a → list_any p ys ≡ b → list_any p xs ≡ list_any p ys
    go true b e f = e ∙ sym (one_way p xs ys to e)
    go false true e f = absurd (false≢true (sym e ∙ one_way p ys xs back f))
    go false false e f = e ∙ sym f

  kept_alike : (k : ℕ) → is_kept section xs k ≡ is_kept section ys k
  unfolding is_kept
  kept_alike k = same_any (is_in_range section k)

  some_iff : (o : Option ℕ) (offset : ℕ) → SomeIff o (Contains xs offset) (new_number section xs offset) → SomeIff o (Contains ys offset) (new_number section ys offset)
  some_iff None offset isnt = λ c. isnt (back offset c)
  some_iff (Some n) offset is = (to offset is.0, is.1 ∙ ap length (same_kept (is_kept section xs) (is_kept section ys) kept_alike 0 (take offset section)))

  pub same_uses : (p : Pruning) → IsPruned section xs p → IsPruned section ys p
  same_uses p is = record {
    bytes = is.bytes ∙ same_kept (is_kept section xs) (is_kept section ys) kept_alike 0 section;
    moved = λ offset. some_iff (moved_in p offset) offset (is.moved offset);
  }

  pub same_results : {E : Type 0} (r : Result Pruning E) → IfOk r (IsPruned section xs) → IfOk r (IsPruned section ys)
  same_results (Ok p) is = same_uses p is
  same_results (Err e) is = tt

pub texts_of : (section uses sorted : List ℕ) → All (λ used. IsSome (text_at section used)) uses → ((u : ℕ) → Contains sorted u → Contains uses u) → All (λ used. IsSome (text_at section used)) sorted
texts_of section uses sorted all back k d lt =
    let c = back (get_or sorted k d) (Contains-get_or sorted k d lt) in
    subst (λ (u : ℕ). IsSome (text_at section u)) c.2 (all c.0 (get_or sorted k d) c.1)
