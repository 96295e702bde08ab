-- What is kept of a row stands in the order that is asked for, and no other row does.
use Rattle.std.proofs.Common.{◌≡◌, ◌↔◌, ℕ, ◌||◌, Bool, true, false, refl, sym, ap, subst, ◌∙◌, inl, inr}
use Rattle.std.proofs.lemmas.Bool.{false_from_ne_true, or_cases, or_left, or_right}
use Rattle.dwz_def_reading.specs.Documents.{Node}
use Rattle.dwz_def_tops.specs.Deciding.{same_bool}
use Rattle.dwz_def_tops.specs.Spots.{ASpace, ATop, EntryName, Nothing, Row, Top}
use Rattle.dwz_def_plan.specs.Children.{HoldsPinned, IsKeptRow, IsPinned, Parted, IsInRow}
use Rattle.dwz_def_plan.specs.IsPlan.{Item, OfSpace, OfTop, Remains}
use Rattle.dwz_def_plan.specs.Plan.{Pinned, beside, pinned_first, row_part, row_pinned, row_staying}

module _ (p : Pinned) (gone : ℕ → Bool) where
  -- ---- the functions, by what they find

  abbrev of_part : Bool → Row → Row
  of_part want row = row_part p want row Nothing

  abbrev firsts : Row → Row
  firsts row = of_part true (row_staying gone row)

  abbrev others_of : Row → Row
  others_of row = of_part false (row_staying gone row)

  stay_top : (t : Top) (next : Row) (b : Bool) → gone t.number ≡ b
      → row_staying gone (ATop t next) ≡ (elim b as (λ _. Row) [ true ↦ row_staying gone next | false ↦ ATop t (row_staying gone next) ])
  unfolding row_staying
  stay_top t next b q = ap (λ (w : Bool). elim w as (λ _. Row) [ true ↦ row_staying gone next | false ↦ ATop t (row_staying gone next) ]) q

  stay_space : (e : Node EntryName) (inner next : Row) → row_staying gone (ASpace e inner next) ≡ ASpace e (row_staying gone inner) (row_staying gone next)
  unfolding row_staying
  stay_space e inner next = refl

  part_top : (want : Bool) (t : Top) (next last : Row) (c : Bool) → p.top t.number ≡ c
      → row_part p want (ATop t next) last ≡ (elim (same_bool c want) as (λ _. Row) [ true ↦ ATop t (row_part p want next last) | false ↦ row_part p want next last ])
  unfolding row_part
  part_top want t next last c q = ap (λ (w : Bool). elim (same_bool w want) as (λ _. Row) [ true ↦ ATop t (row_part p want next last) | false ↦ row_part p want next last ]) q

  part_space : (want : Bool) (e : Node EntryName) (inner next last : Row) (c : Bool) → (p.space e.at || row_pinned p inner) ≡ c
      → row_part p want (ASpace e inner next) last ≡ (elim (same_bool c want) as (λ _. Row) [ true ↦ ASpace e (pinned_first p inner) (row_part p want next last) | false ↦ row_part p want next last ])
  unfolding row_part
  part_space want e inner next last c q =
      ap (λ (w : Bool). elim (same_bool w want) as (λ _. Row) [ true ↦ ASpace e (pinned_first p inner) (row_part p want next last) | false ↦ row_part p want next last ]) q

  part_beside : (want : Bool) (row last : Row) → row_part p want row last ≡ beside (row_part p want row Nothing) last
  unfolding row_part beside
  part_beside want Nothing last = refl
  part_beside want (ATop t next) last = go (part_beside want next last) (same_bool (p.top t.number) want) where
    go : row_part p want next last ≡ beside (row_part p want next Nothing) last → (b : Bool)
        → (elim b as (λ _. Row) [ true ↦ ATop t (row_part p want next last) | false ↦ row_part p want next last ])
        ≡ beside (elim b as (λ _. Row) [ true ↦ ATop t (row_part p want next Nothing) | false ↦ row_part p want next Nothing ]) last
    go more true = ap (λ (w : Row). ATop t w) more
    go more false = more
  part_beside want (ASpace e inner next) last = go (part_beside want next last) (same_bool (p.space e.at || row_pinned p inner) want) where
    go : row_part p want next last ≡ beside (row_part p want next Nothing) last → (b : Bool)
        → (elim b as (λ _. Row) [ true ↦ ASpace e (pinned_first p inner) (row_part p want next last) | false ↦ row_part p want next last ])
        ≡ beside (elim b as (λ _. Row) [ true ↦ ASpace e (pinned_first p inner) (row_part p want next Nothing) | false ↦ row_part p want next Nothing ]) last
    go more true = ap (λ (w : Row). ASpace e (pinned_first p inner) w) more
    go more false = more

  -- ---- what holds something that is pinned

  pinned_to : (row : Row) (x : Item) → IsInRow x row → Remains gone x → IsPinned p x → row_pinned p (row_staying gone row) ≡ true
  unfolding row_pinned
  pinned_to Nothing x s r q = absurd s
  pinned_to (ATop t next) x s r q = go (pinned_to next x) s (gone t.number) refl where
    here : OfTop t ≡ x → (gone t.number ≡ false) × (p.top t.number ≡ true)
    here e = (subst (Remains gone) (sym e) r, subst (IsPinned p) (sym e) q)

    go : (IsInRow x next → Remains gone x → IsPinned p x → row_pinned p (row_staying gone next) ≡ true) → IsInRow x (ATop t next) → (b : Bool) → gone t.number ≡ b
        → row_pinned p (row_staying gone (ATop t next)) ≡ true
    go more (inl e) true g = absurd (let h = (here e).0 in cc)
    go more (inr s) true g = ap (row_pinned p) (stay_top t next true g) ∙ more s r q
    go more (inl e) false g = ap (row_pinned p) (stay_top t next false g) ∙ or_left (p.top t.number) (row_pinned p (row_staying gone next)) (here e).1
    go more (inr s) false g = ap (row_pinned p) (stay_top t next false g) ∙ or_right (p.top t.number) (row_pinned p (row_staying gone next)) (more s r q)
  pinned_to (ASpace e inner next) x s r q = ap (row_pinned p) (stay_space e inner next) ∙ go (pinned_to inner x) (pinned_to next x) s where
    both : Bool
    both = row_pinned p (row_staying gone inner) || row_pinned p (row_staying gone next)

    go : (IsInRow x inner → Remains gone x → IsPinned p x → row_pinned p (row_staying gone inner) ≡ true)
        → (IsInRow x next → Remains gone x → IsPinned p x → row_pinned p (row_staying gone next) ≡ true) → IsInRow x (ASpace e inner next) → (p.space e.at || both) ≡ true
    go f g (inl h) = or_left (p.space e.at) both (subst (IsPinned p) (sym h) q)
    go f g (inr (inl h)) = or_right (p.space e.at) both (or_left (row_pinned p (row_staying gone inner)) (row_pinned p (row_staying gone next)) (f h r q))
    go f g (inr (inr h)) = or_right (p.space e.at) both (or_right (row_pinned p (row_staying gone inner)) (row_pinned p (row_staying gone next)) (g h r q))

  -- something in the row stays and is pinned
  abbrev Has : Row → Type 0
  Has row = (x : Item) × IsInRow x row × Remains gone x × IsPinned p x

  pinned_from : (row : Row) → row_pinned p (row_staying gone row) ≡ true → Has row
  unfolding row_pinned row_staying
  pinned_from Nothing h = absurd cc
  pinned_from (ATop t next) h = go (pinned_from next) (gone t.number) refl where
    later : Has next → Has (ATop t next)
    later o = (o.0, inr o.1, o.2, o.3)

    go : (row_pinned p (row_staying gone next) ≡ true → Has next) → (b : Bool) → gone t.number ≡ b → Has (ATop t next)
    go more true g = later (more (sym (ap (row_pinned p) (stay_top t next true g)) ∙ h))
    go more false g = elim (or_cases (p.top t.number) (row_pinned p (row_staying gone next)) (sym (ap (row_pinned p) (stay_top t next false g)) ∙ h)) [
      | inl a ↦ (OfTop t, inl refl, g, a)
      | inr b ↦ later (more b)
    ]
  pinned_from (ASpace e inner next) h =
      elim (or_cases (p.space e.at) (row_pinned p (row_staying gone inner) || row_pinned p (row_staying gone next)) h) [
        | inl a ↦ (OfSpace e, inl refl, tt, a)
        | inr b ↦ (elim (or_cases (row_pinned p (row_staying gone inner)) (row_pinned p (row_staying gone next)) b) [
          | inl c ↦ (let o = pinned_from inner c in (o.0, inr (inl o.1), o.2, o.3))
          | inr c ↦ (let o = pinned_from next c in (o.0, inr (inr o.1), o.2, o.3))
        ])
      ]

  abbrev holds_test : Node EntryName → Row → Bool
  holds_test e inner = p.space e.at || row_pinned p (row_staying gone inner)

  holds_to : (e : Node EntryName) (inner : Row) → HoldsPinned p gone e inner → holds_test e inner ≡ true
  holds_to e inner (inl a) = or_left (p.space e.at) (row_pinned p (row_staying gone inner)) a
  holds_to e inner (inr o) = or_right (p.space e.at) (row_pinned p (row_staying gone inner)) (pinned_to inner o.0 o.1 o.2 o.3)

  holds_from : (e : Node EntryName) (inner : Row) → holds_test e inner ≡ true → HoldsPinned p gone e inner
  holds_from e inner h = elim (or_cases (p.space e.at) (row_pinned p (row_staying gone inner)) h) [ inl a ↦ inl a | inr b ↦ inr (pinned_from inner b) ]

  -- ---- the two rows of the functions, child by child

  abbrev Are : Row → Row → Row → Type 0
  Are row first others = (firsts row ≡ first) × (others_of row ≡ others)

  top_gone : (t : Top) (next : Row) → gone t.number ≡ true → Are (ATop t next) (firsts next) (others_of next)
  top_gone t next g = (ap (of_part true) (stay_top t next true g), ap (of_part false) (stay_top t next true g))

  top_first : (t : Top) (next : Row) → gone t.number ≡ false → p.top t.number ≡ true → Are (ATop t next) (ATop t (firsts next)) (others_of next)
  top_first t next g q = (
    ap (of_part true) (stay_top t next false g) ∙ part_top true t (row_staying gone next) Nothing true q,
    ap (of_part false) (stay_top t next false g)
        ∙ part_top false t (row_staying gone next) Nothing true q,
  )

  top_other : (t : Top) (next : Row) → gone t.number ≡ false → p.top t.number ≡ false → Are (ATop t next) (firsts next) (ATop t (others_of next))
  top_other t next g q = (
    ap (of_part true) (stay_top t next false g) ∙ part_top true t (row_staying gone next) Nothing false q,
    ap (of_part false) (stay_top t next false g)
        ∙ part_top false t (row_staying gone next) Nothing false q,
  )

  -- what the functions keep of a space
  abbrev space_with : Node EntryName → Row → Row → Row
  space_with e inner next = ASpace e (beside (firsts inner) (others_of inner)) next

  inside : (inner : Row) → pinned_first p (row_staying gone inner) ≡ beside (firsts inner) (others_of inner)
  inside inner = part_beside true (row_staying gone inner) (others_of inner)

  space_first : (e : Node EntryName) (inner next : Row) → holds_test e inner ≡ true → Are (ASpace e inner next) (space_with e inner (firsts next)) (others_of next)
  space_first e inner next q = (
    ap (of_part true) (stay_space e inner next) ∙ part_space true e (row_staying gone inner) (row_staying gone next) Nothing true q
        ∙ ap (λ (w : Row). ASpace e w (firsts next)) (inside inner),
    ap (of_part false) (stay_space e inner next) ∙ part_space false e (row_staying gone inner) (row_staying gone next) Nothing true q,
  )

  space_other : (e : Node EntryName) (inner next : Row) → holds_test e inner ≡ false → Are (ASpace e inner next) (firsts next) (space_with e inner (others_of next))
  space_other e inner next q = (
    ap (of_part true) (stay_space e inner next) ∙ part_space true e (row_staying gone inner) (row_staying gone next) Nothing false q,
    ap (of_part false) (stay_space e inner next) ∙ part_space false e (row_staying gone inner) (row_staying gone next) Nothing false q
        ∙ ap (λ (w : Row). ASpace e w (others_of next)) (inside inner),
  )

  none_are : Are Nothing Nothing Nothing
  unfolding row_part row_staying
  none_are = (refl, refl)

  -- ---- they stand as is asked

  put : (row first others : Row) → Are row first others → Parted p gone row first others → Parted p gone row (firsts row) (others_of row)
  put row first others a h =
      subst (λ (w : Row). Parted p gone row w (others_of row)) (sym a.0) (subst (λ (w : Row). Parted p gone row first w) (sym a.1) h)

  parted_is : (row : Row) → Parted p gone row (firsts row) (others_of row)
  parted_is Nothing = none_are
  parted_is (ATop t next) = go (parted_is next) (gone t.number) refl (p.top t.number) refl where
    go : Parted p gone next (firsts next) (others_of next) → (b : Bool) → gone t.number ≡ b → (c : Bool) → p.top t.number ≡ c → Parted p gone (ATop t next) (firsts (ATop t next)) (others_of (ATop t next))
    go more true g c q = put (ATop t next) (firsts next) (others_of next) (top_gone t next g) (inl (g, more))
    go more false g true q = put (ATop t next) (ATop t (firsts next)) (others_of next) (top_first t next g q) (inr (g, inl (q, (firsts next, refl, more))))
    go more false g false q =
        put (ATop t next) (firsts next) (ATop t (others_of next)) (top_other t next g q) (inr (g, inr ((λ h. absurd (let x : p.top t.number ≡ true = h in cc)), (others_of next, refl, more))))
  parted_is (ASpace e inner next) = go (parted_is inner) (parted_is next) (holds_test e inner) refl where
    go : Parted p gone inner (firsts inner) (others_of inner) → Parted p gone next (firsts next) (others_of next) → (c : Bool) → holds_test e inner ≡ c
        → Parted p gone (ASpace e inner next) (firsts (ASpace e inner next)) (others_of (ASpace e inner next))
    go below more true q =
        put (ASpace e inner next) (space_with e inner (firsts next)) (others_of next) (space_first e inner next q)
        (firsts inner, others_of inner, below, inl (holds_from e inner q, (firsts next, refl, more)))
    go below more false q =
        put (ASpace e inner next) (firsts next) (space_with e inner (others_of next)) (space_other e inner next q)
        (firsts inner, others_of inner, below, inr ((λ h. absurd (let x = holds_to e inner h in cc)), (others_of next, refl, more)))

  -- ---- and no others do

  space_same : (e : Node EntryName) (inner next a b : Row) → Are inner a b → space_with e inner next ≡ ASpace e (beside a b) next
  space_same e inner next a b i = ap (λ (w : Row). ASpace e (beside w (others_of inner)) next) i.0 ∙ ap (λ (w : Row). ASpace e (beside a w) next) i.1

  parted_one : (row first others : Row) → Parted p gone row first others → Are row first others
  parted_one Nothing first others h = (none_are.0 ∙ sym h.0, none_are.1 ∙ sym h.1)
  parted_one (ATop t next) first others (inl h) = let o = parted_one next first others h.1 in let a = top_gone t next h.0 in (a.0 ∙ o.0, a.1 ∙ o.1)
  parted_one (ATop t next) first others (inr (g, inl h)) =
      let o = parted_one next h.1.0 others h.1.2 in
      let a = top_first t next g h.0 in
      (a.0 ∙ ap (λ (w : Row). ATop t w) o.0 ∙ sym h.1.1, a.1 ∙ o.1)
  parted_one (ATop t next) first others (inr (g, inr h)) =
      let o = parted_one next first h.1.0 h.1.2 in
      let a = top_other t next g (false_from_ne_true (p.top t.number) h.0) in
      (a.0 ∙ o.0, a.1 ∙ ap (λ (w : Row). ATop t w) o.1 ∙ sym h.1.1)
  parted_one (ASpace e inner next) first others (a, b, below, inl h) =
      let i = parted_one inner a b below in
      let o = parted_one next h.1.0 others h.1.2 in
      let s = space_first e inner next (holds_to e inner h.0) in
      (s.0 ∙ ap (space_with e inner) o.0 ∙ space_same e inner h.1.0 a b i ∙ sym h.1.1, s.1 ∙ o.1)
  parted_one (ASpace e inner next) first others (a, b, below, inr h) =
      let i = parted_one inner a b below in
      let o = parted_one next first h.1.0 h.1.2 in
      let s = space_other e inner next (false_from_ne_true (holds_test e inner) (λ q. h.0 (holds_from e inner q))) in
      (s.0 ∙ o.0, s.1 ∙ ap (space_with e inner) o.1 ∙ space_same e inner h.1.0 a b i ∙ sym h.1.1)

  pub kept_order : (row kept : Row) → IsKeptRow p gone row kept ↔ (pinned_first p (row_staying gone row) ≡ kept)
  kept_order row kept = (
    (λ h.
        let o = parted_one row h.first h.others h.parted in
        inside row ∙ ap (λ (w : Row). beside w (others_of row)) o.0 ∙ ap (beside h.first) o.1 ∙ sym h.kept_is),
    (λ e. record { first = firsts row; others = others_of row; parted = parted_is row; kept_is = sym e ∙ inside row }),
  )
