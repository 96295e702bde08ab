-- The numbers of name lists are equal just where the lists are.
use Rattle.std.proofs.Common.{◌≡◌, ◌↔◌, ℕ, zero, suc, ◌+◌, ◌<◌, Bool, true, false, List, [], ◌∷◌, ◌++◌, length, map, Some, slice_get, slice_index, ◌==◌, refl, sym, ap, ◌∙◌, arith}
use Rattle.std.proofs.lemmas.Bool.{eq-eqb, eqb-true}
use Rattle.std.proofs.lemmas.List.{length-append}
use Rattle.dwz_def_tops.specs.Spots.{SpaceName, Top, name_list}
use Rattle.dwz_def_images.specs.Plan.{in_root, none_of, same_names}
use Rattle.dwz_def_images.proofs.PartRows.{names_same, names_true}
use Rattle.dwz_layout_items.specs.declared.partial.SpaceRow.{SpaceRow}
use Rattle.dwz_layout_items.specs.Chains.{Up, down}
use Rattle.dwz_layout_order.specs.Lists.{AreLists, SameList, list_above, outer_at}
use Rattle.dwz_layout_order.specs.Shown.{AreOwn, NumbersTexts, text_of}

-- ---- names from a root down

abbrev pub texts_down : (ℕ → SpaceName) → List ℕ → List (List ℕ)
texts_down said ups = map text_of (map said (down ups))

texts_push : (said : ℕ → SpaceName) (xs : List ℕ) (k : ℕ) → map text_of (map said (xs ++ k ∷ [])) ≡ map text_of (map said xs) ++ text_of (said k) ∷ []
texts_push said [] k = refl
texts_push said (x ∷ xs) k = ap (λ (w : List (List ℕ)). text_of (said x) ∷ w) (texts_push said xs k)

texts_step : (said : ℕ → SpaceName) (k : ℕ) (ups : List ℕ) → texts_down said (k ∷ ups) ≡ texts_down said ups ++ text_of (said k) ∷ []
unfolding down
texts_step said k ups = texts_push said (down ups) k

long_push : {X : Type 0} (xs : List X) (x : X) → length (xs ++ x ∷ []) ≡ length xs + 1
long_push xs x = length-append xs (x ∷ [])

last_same : {X : Type 0} (xs ys : List X) (x y : X) → xs ++ x ∷ [] ≡ ys ++ y ∷ [] → (xs ≡ ys) × (x ≡ y)
last_same [] [] x y e = (refl, cc)
last_same {X} [] (b ∷ ys) x y e = absurd (let long = ap (λ (w : List X). length w) e in let more = long_push ys y in omega arith)
last_same {X} (a ∷ xs) [] x y e = absurd (let long = ap (λ (w : List X). length w) e in let more = long_push xs x in omega arith)
last_same {X} (a ∷ xs) (b ∷ ys) x y e =
    let head : a ≡ b = cc in
    let rest = last_same xs ys x y cc in
    ((λ i. head i ∷ rest.0 i), rest.1)

-- ---- numbers

outer_found : (rows : List SpaceRow) (k : ℕ) (row : SpaceRow) → slice_get rows k ≡ Some row → (outer_at rows k ≡ row.outer) × (k < length rows)
outer_found [] k row e = absurd cc
outer_found (x ∷ rows) zero row e = (let same : x ≡ row = cc in (ap (λ (w : SpaceRow). w.outer) same, omega arith))
outer_found (x ∷ rows) (suc k) row e = (let r = outer_found rows k row e in (r.0, omega (arith, r.1)))

module _ (rows : List SpaceRow) (said : ℕ → SpaceName) (texts lists : List ℕ) (own : AreOwn rows) (numbers : NumbersTexts rows said texts) (are : AreLists rows texts lists) where
  pub lists_same : (ups vps : List ℕ) (i j : ℕ) → Up rows i ups → Up rows j vps → (list_above lists i ≡ list_above lists j) ↔ (texts_down said ups ≡ texts_down said vps)
  unfolding down
  lists_same [] [] i j a b = ((λ e. refl), (λ e. (λ k. list_above lists ((a ∙ sym b) k))))
  lists_same [] (v ∷ vps) i j a b =
      let there = outer_found rows b.0 b.1 b.3 in
      let some = are.some b.0 there.1 in
      let none : list_above lists i ≡ 0 = ap (list_above lists) a in
      let number : list_above lists j ≡ slice_index lists b.0 = ap (list_above lists) b.2 in (
        (λ e. absurd (omega arith)),
        (λ e. absurd (let f = ap (λ (w : List (List ℕ)). length w) (e ∙ texts_step said v vps) in let more = long_push (texts_down said vps) (text_of (said v)) in omega arith)),
      )
  lists_same (u ∷ ups) [] i j a b =
      let there = outer_found rows a.0 a.1 a.3 in
      let some = are.some a.0 there.1 in
      let none : list_above lists j ≡ 0 = ap (list_above lists) b in
      let number : list_above lists i ≡ slice_index lists a.0 = ap (list_above lists) a.2 in (
        (λ e. absurd (omega arith)),
        (λ e. absurd (let f = ap (λ (w : List (List ℕ)). length w) (sym e ∙ texts_step said u ups) in let more = long_push (texts_down said ups) (text_of (said u)) in omega arith)),
      )
  lists_same (u ∷ ups) (v ∷ vps) i j a b =
      let here = outer_found rows a.0 a.1 a.3 in
      let there = outer_found rows b.0 b.1 b.3 in
      let deeper = lists_same ups vps a.1.outer b.1.outer a.5 b.5 in
      let mine : u ≡ a.0 = sym a.4 ∙ own a.0 a.1 a.3 in
      let yours : v ≡ b.0 = sym b.4 ∙ own b.0 b.1 b.3 in
      let text = numbers.same a.0 b.0 here.1 there.1 in
      let same = are.same a.0 b.0 here.1 there.1 in (
        (λ e. (
            let parts = same.0 ((λ k. list_above lists (sym a.2 k)) ∙ e ∙ (λ k. list_above lists (b.2 k))) in
            let outer = deeper.0 ((λ k. list_above lists (sym here.0 k)) ∙ parts.outer ∙ (λ k. list_above lists (there.0 k))) in
            let texts_are = text.0 parts.text in
            texts_step said u ups ∙ (λ k. outer k ++ (ap (λ (n : ℕ). text_of (said n)) mine ∙ texts_are ∙ ap (λ (n : ℕ). text_of (said n)) (sym yours)) k ∷ []) ∙ sym (texts_step said v vps)
            )),
        (λ e. (
            let parts = last_same (texts_down said ups) (texts_down said vps) (text_of (said u)) (text_of (said v)) (sym (texts_step said u ups) ∙ e ∙ texts_step said v vps) in
            let outer = deeper.1 parts.0 in
            let texts_are = text.1 (ap (λ (n : ℕ). text_of (said n)) (sym mine) ∙ parts.1 ∙ ap (λ (n : ℕ). text_of (said n)) yours) in
            let list : SameList rows texts lists a.0 b.0 = record { outer = (λ k. list_above lists (here.0 k)) ∙ outer ∙ (λ k. list_above lists (sym there.0 k)); text = texts_are } in
            (λ k. list_above lists (a.2 k)) ∙ same.1 list ∙ (λ k. list_above lists (sym b.2 k))
            )),
      )

  -- ---- tops

  tests_same : (b c : Bool) → (b ≡ true → c ≡ true) → (c ≡ true → b ≡ true) → b ≡ c
  tests_same true c f g = sym (f refl)
  tests_same false true f g = g refl
  tests_same false false f g = refl

  pub names_numbered : (t u : Top) (ups vps : List ℕ) (i j : ℕ) → Up rows i ups → Up rows j vps → t.spaces ≡ map said (down ups) → u.spaces ≡ map said (down vps)
      → same_names t u ≡ (list_above lists i == list_above lists j)
  names_numbered t u ups vps i j a b x y =
      let same = lists_same ups vps i j a b in
      let mine : name_list t ≡ texts_down said ups = ap (λ (w : List SpaceName). map text_of w) x in
      let yours : name_list u ≡ texts_down said vps = ap (λ (w : List SpaceName). map text_of w) y in
      tests_same (same_names t u) (list_above lists i == list_above lists j)
      (λ e. eq-eqb _ _ (same.1 (sym mine ∙ names_true t u e ∙ yours)))
      (λ e. names_same t u (mine ∙ same.0 (eqb-true _ _ e) ∙ sym yours))

  -- a top that stands in no space
  pub root_numbered : (t : Top) (ups : List ℕ) (i : ℕ) → Up rows i ups → t.spaces ≡ map said (down ups) → in_root t ≡ (list_above lists i == 0)
  unfolding down
  root_numbered t [] i a x = ap none_of x ∙ sym (eq-eqb _ _ (ap (list_above lists) a))
  root_numbered t (u ∷ ups) i a x =
      let there = outer_found rows a.0 a.1 a.3 in
      let some = are.some a.0 there.1 in
      let number : list_above lists i ≡ slice_index lists a.0 = ap (list_above lists) a.2 in
      tests_same (in_root t) (list_above lists i == 0)
      (λ e. absurd (none_there (down ups) (said u) (sym (ap none_of x) ∙ e)))
      (λ e. absurd (let zero_is = eqb-true _ _ e in omega arith))
    where
      none_there : (xs : List ℕ) (s : SpaceName) → none_of (map said (xs ++ u ∷ [])) ≡ true → ⊥
      none_there [] s e = cc
      none_there (y ∷ xs) s e = cc
