-- A pass over the operands of location lists, in order of place, decides whether one shares a byte.
use Rattle.std.proofs.Common.{◌≡◌, ◌⊎◌, ℕ, ◌+◌, ◌<◌, ◌≤◌, Bool, true, false, List, [], ◌∷◌, ◌++◌, map, Some, refl, sym, ap, subst, ◌∙◌, inl, inr, arith, ltb}
use Rattle.std.specs.List.{list_any}
use Rattle.std.proofs.lemmas.Bool.{ltb-false, ltb-true}
use Rattle.dwz_def_reading.specs.declared.exprs.Operand.{Operand}
use Rattle.dwz_model.specs.Lists.{In}
use Rattle.dwz_def_reading.specs.Shared.{AreRows, Ascend, Clashes, HasByte, IsInSlot, IsSame, IsShared, IsSharedAt, ListOperand, NamedList, NoneShared, OneOf, PassesOver, ReadsInside, StandApart}
use Rattle.dwz_def_reading.specs.Shared.{has_byte, is_same, of_unit, operands_in_lists, own_operands}
use Rattle.dwz_def_reading.proofs.DecideLemmas.{Decides, decides_any}
use Rattle.dwz_def_reading.proofs.SharedLemmas.{has_decides, same_decides}

-- ---- the same operand

same_sym : (o p : ListOperand) → IsSame o p → IsSame p o
same_sym o p s = record { unit = sym s.unit; at = sym s.at; width = sym s.width; uleb = sym s.uleb; base = sym s.base }

same_trans : (o p q : ListOperand) → IsSame o p → IsSame p q → IsSame o q
same_trans o p q s t = record { unit = s.unit ∙ t.unit; at = s.at ∙ t.at; width = s.width ∙ t.width; uleb = s.uleb ∙ t.uleb; base = s.base ∙ t.base }

same_byte : (o p : ListOperand) (b : ℕ) → IsSame o p → HasByte p.operand b → HasByte o.operand b
same_byte o p b s h = let at = s.at in let width = s.width in let low = h.0 in let high = h.1 in (omega (arith, at, low), omega (arith, at, width, high))

-- ---- rows that stand apart

-- what is behind a row begins behind its end
behind_row : (o : ListOperand) (rows : List ListOperand) → StandApart (o ∷ rows) → (p : ListOperand) → In p rows → o.operand.at + o.operand.width ≤ p.operand.at
behind_row o [] apart p there = absurd there
behind_row o (q ∷ rows) apart p (inl same) = subst (λ (w : ListOperand). o.operand.at + o.operand.width ≤ w.operand.at) same apart.0
behind_row o (q ∷ rows) apart p (inr later) = let more = behind_row q rows apart.1 p later in let first = apart.0 in omega (arith, more, first)

tail_apart : (o : ListOperand) (rows : List ListOperand) → StandApart (o ∷ rows) → StandApart rows
tail_apart o [] apart = tt
tail_apart o (q ∷ rows) apart = apart.1

-- two rows with a byte in common are one
one_row : (rows : List ListOperand) → StandApart rows → (o p : ListOperand) → In o rows → In p rows → (b : ℕ) → HasByte o.operand b → HasByte p.operand b → o ≡ p
one_row [] apart o p is there b h k = absurd is
one_row (q ∷ rows) apart o p (inl s) (inl t) b h k = sym s ∙ t
one_row (q ∷ rows) apart o p (inl s) (inr t) b h k =
    let behind = behind_row q rows apart p t in
    let end : b < q.operand.at + q.operand.width = subst (λ (w : ListOperand). b < w.operand.at + w.operand.width) (sym s) h.1 in
    let low = k.0 in
    absurd (omega (arith, behind, end, low))
one_row (q ∷ rows) apart o p (inr s) (inl t) b h k =
    let behind = behind_row q rows apart o s in
    let end : b < q.operand.at + q.operand.width = subst (λ (w : ListOperand). b < w.operand.at + w.operand.width) (sym t) k.1 in
    let low = h.0 in
    absurd (omega (arith, behind, end, low))
one_row (q ∷ rows) apart o p (inr s) (inr t) b h k = one_row rows (tail_apart q rows apart) o p s t b h k

-- ---- the operands of all lists

in_mapped : (unit : ℕ) (p : Operand) (ps : List Operand) → In p ps → In (of_unit unit p) (map (of_unit unit) ps)
in_mapped unit p [] h = absurd h
in_mapped unit p (q ∷ ps) (inl s) = inl (ap (of_unit unit) s)
in_mapped unit p (q ∷ ps) (inr t) = inr (in_mapped unit p ps t)

in_front : (x : ListOperand) (xs ys : List ListOperand) → In x xs → In x (xs ++ ys)
in_front x [] ys h = absurd h
in_front x (y ∷ xs) ys (inl s) = inl s
in_front x (y ∷ xs) ys (inr t) = inr (in_front x xs ys t)

in_back : (x : ListOperand) (xs ys : List ListOperand) → In x ys → In x (xs ++ ys)
in_back x [] ys h = h
in_back x (y ∷ xs) ys h = inr (in_back x xs ys h)

-- an own operand of a list is one of all
pub own_in : (l : NamedList) (p : Operand) (lists : List NamedList) → In l lists → In p (own_operands l) → In (of_unit l.unit p) (operands_in_lists lists)
unfolding operands_in_lists
own_in l p [] is there = absurd is
own_in l p (m ∷ lists) (inl same) there =
    let here : In (of_unit m.unit p) (map (of_unit m.unit) (own_operands m)) = in_mapped m.unit p (own_operands m) (subst (λ (w : NamedList). In p (own_operands w)) (sym same) there) in
    in_front (of_unit l.unit p) (map (of_unit m.unit) (own_operands m)) (operands_in_lists lists)
    (subst (λ (n : ℕ). In (of_unit n p) (map (of_unit m.unit) (own_operands m))) (ap (λ (w : NamedList). w.unit) same) here)
own_in l p (m ∷ lists) (inr later) there = in_back (of_unit l.unit p) (map (of_unit m.unit) (own_operands m)) (operands_in_lists lists) (own_in l p lists later there)

-- ---- a pass, and what is shared

module _ (lists : List NamedList) (rows : List ListOperand) (are : AreRows lists rows) where
  -- where a pass finds nothing, nothing is shared
  pub pass_none : PassesOver lists rows → NoneShared lists
  pass_none pass place (o, there, (at, shared)) = elim shared [
    | inl clash ↦
        let p = clash.0 in
        let c = clash.2 in
        let r = are.all o there in
        let q = are.all p clash.1 in
        let b = c.shared.0 in
        let one = one_row rows pass.apart r.0 q.0 r.1 q.1 b (same_byte r.0 o b r.2 c.shared.1) (same_byte q.0 p b q.2 c.shared.2) in
        let both : IsSame r.0 p = subst (λ (w : ListOperand). IsSame w p) (sym one) q.2 in
        c.differ (same_trans o r.0 p (same_sym r.0 o r.2) both)
    | inr other ↦ elim other [
      | inl inside ↦
          let l = inside.0 in
          let i = inside.2 in
          let r = are.all o there in
          let h = same_byte r.0 o i.byte r.2 i.has in
          let low = h.0 in
          let high = h.1 in
          let from = i.from in
          let to = i.to in
          let own = pass.owned r.0 l r.1 inside.1 (omega (arith, low, to)) (omega (arith, high, from)) in
          i.others own.0 own.1 (same_byte (of_unit l.unit own.0) r.0 i.byte own.2 h)
      | inr slotted ↦
          let l = slotted.0 in
          let i = slotted.2 in
          let r = are.all o there in
          let h = same_byte r.0 o i.byte r.2 i.has in
          let low = h.0 in
          let high = h.1 in
          let from = i.from in
          let to = i.to in
          pass.free r.0 l i.slot r.1 slotted.1 i.is_slot (omega (arith, low, to)) (omega (arith, high, from))
    ]
  ]

  shared_here : (o : ListOperand) → In o rows → IsShared lists o → IsSharedAt lists o.operand.at
  shared_here o there shared = (o, are.from o there, (refl, shared))

  -- ascending rows that don't clash stand apart
  rows_apart : (some : List ListOperand) → ((o : ListOperand) → In o some → In o rows) → Ascend some → NoneShared lists → StandApart some
  rows_apart [] within ascend none = tt
  rows_apart (o ∷ []) within ascend none = tt
  rows_apart (o ∷ p ∷ some) within ascend none = (apart, rows_apart (p ∷ some) (λ q there. within q (inr there)) ascend.1 none) where
    is_o : In o rows
    is_o = within o (inl refl)

    is_p : In p rows
    is_p = within p (inr (inl refl))

    apart : o.operand.at + o.operand.width ≤ p.operand.at
    apart = by (ltb p.operand.at (o.operand.at + o.operand.width)) refl where
      by : (b : Bool) → ltb p.operand.at (o.operand.at + o.operand.width) ≡ b → o.operand.at + o.operand.width ≤ p.operand.at
      by true lt =
          let less = ltb-true p.operand.at (o.operand.at + o.operand.width) lt in
          let order = ascend.0.0 in
          let width = are.some p is_p in
          let clash : Clashes p o = record { later = order; shared = (p.operand.at, (omega arith, omega (arith, width)), (order, less)); differ = λ s. ascend.0.1 (same_sym p o s) } in
          absurd (none p.operand.at (shared_here p is_p (inl (o, are.from o is_o, clash))))
      by false ge = ltb-false p.operand.at (o.operand.at + o.operand.width) ge

  -- the greater of two places
  greatest : (a b : ℕ) → (c : ℕ) × (a ≤ c) × (b ≤ c) × ((c ≡ a) ⊎ (c ≡ b))
  greatest a b = by (ltb a b) refl where
    by : (t : Bool) → ltb a b ≡ t → (c : ℕ) × (a ≤ c) × (b ≤ c) × ((c ≡ a) ⊎ (c ≡ b))
    by true lt = let less = ltb-true a b lt in (b, omega (arith, less), omega arith, inr refl)
    by false ge = let more = ltb-false a b ge in (a, omega arith, omega (arith, more), inl refl)

  -- a byte of the row behind a place, where the row reaches behind it
  common : (o : ListOperand) → In o rows → (from : ℕ) → from < o.operand.at + o.operand.width → (b : ℕ) × HasByte o.operand b × (from ≤ b) × ((b ≡ o.operand.at) ⊎ (b ≡ from))
  common o there from reach =
      let g = greatest o.operand.at from in
      let b = g.0 in
      let low = g.1 in
      let width = are.some o there in
      let high : b < o.operand.at + o.operand.width = elim g.3 [ inl e ↦ omega (arith, e, width) | inr e ↦ omega (arith, e, reach) ] in
      (b, (low, high), g.2, g.3)

  -- two operands with a byte in common are the same, where nothing is shared
  alike : NoneShared lists → (o p : ListOperand) → In o (operands_in_lists lists) → In p (operands_in_lists lists) → (b : ℕ) → HasByte o.operand b → HasByte p.operand b → IsSame o p
  alike none o p there other b h k = by (is_same o p) refl where
    by : (t : Bool) → is_same o p ≡ t → IsSame o p
    by true e = (same_decides o p).yes e
    by false e = order (ltb o.operand.at p.operand.at) refl where
      differ : IsSame o p → ⊥
      differ = (same_decides o p).no e

      order : (t : Bool) → ltb o.operand.at p.operand.at ≡ t → IsSame o p
      order true lt =
          let less = ltb-true o.operand.at p.operand.at lt in
          let clash : Clashes p o = record { later = omega (arith, less); shared = (b, k, h); differ = λ s. differ (same_sym p o s) } in
          absurd (none p.operand.at (p, other, (refl, inl (o, there, clash))))
      order false ge =
          let more = ltb-false o.operand.at p.operand.at ge in
          let clash : Clashes o p = record { later = more; shared = (b, h, k); differ = differ } in
          absurd (none o.operand.at (o, there, (refl, inl (p, other, clash))))

  owned : NoneShared lists → (o : ListOperand) (l : NamedList) → In o rows → In l lists → o.operand.at < l.list.end → l.from < o.operand.at + o.operand.width → l.from < l.list.end
      → OneOf (own_operands l) (λ p. IsSame (of_unit l.unit p) o)
  owned none o l there is end from some =
      let c = common o there l.from from in
      let b = c.0 in
      let to : b < l.list.end = elim c.3 [ inl e ↦ omega (arith, e, end) | inr e ↦ omega (arith, e, some) ] in
      own b c.1 c.2 to where
        own : (b : ℕ) → HasByte o.operand b → l.from ≤ b → b < l.list.end → OneOf (own_operands l) (λ p. IsSame (of_unit l.unit p) o)
        own b h low high = by (list_any (has_byte b) (own_operands l)) refl where
          decided : Decides (list_any (has_byte b) (own_operands l)) ((p : Operand) × In p (own_operands l) × HasByte p b)
          decided = decides_any (has_byte b) (λ p. HasByte p b) (has_decides b) (own_operands l)

          by : (t : Bool) → list_any (has_byte b) (own_operands l) ≡ t → OneOf (own_operands l) (λ p. IsSame (of_unit l.unit p) o)
          by true e =
              let found = decided.yes e in
              let p = found.0 in
              (p, found.1, alike none (of_unit l.unit p) o (own_in l p lists is found.1) (are.from o there) b found.2 h)
          by false e =
              let inside : ReadsInside o.operand l = record { byte = b; has = h; from = low; to = high; others = λ p own has. decided.no e (p, own, has) } in
              absurd (none o.operand.at (o, are.from o there, (refl, inr (inl (l, is, inside)))))

  free : NoneShared lists → (o : ListOperand) (l : NamedList) (slot : ℕ) → In o rows → In l lists → l.slot ≡ Some slot → o.operand.at < slot + 4 → slot < o.operand.at + o.operand.width → ⊥
  free none o l slot there is is_slot end from =
      let c = common o there slot from in
      let b = c.0 in
      let to : b < slot + 4 = elim c.3 [ inl e ↦ omega (arith, e, end) | inr e ↦ omega (arith, e) ] in
      let slotted : IsInSlot o.operand l = record { slot = slot; is_slot = is_slot; byte = b; has = c.1; from = c.2; to = to } in
      none o.operand.at (o, are.from o there, (refl, inr (inr (l, is, slotted))))

  -- where nothing is shared, a pass finds nothing
  pub none_pass : ((l : NamedList) → In l lists → l.from < l.list.end) → NoneShared lists → PassesOver lists rows
  none_pass some none = record {
    apart = rows_apart rows (λ o there. there) are.ascend none;
    owned = λ o l there is end from. owned none o l there is end from (some l is);
    free = free none;
  }
