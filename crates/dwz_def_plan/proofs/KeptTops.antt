-- What is kept of a row holds just what remains, and so just the tops that stay.
use Rattle.std.proofs.Common.{◌≡◌, ◌↔◌, ◌⊎◌, ℕ, Bool, true, false, List, refl, sym, ap, subst, inl, inr}
use Rattle.dwz_def_reading.specs.Lists.{In}
use Rattle.dwz_def_reading.proofs.ListFacts.{in_cases, in_left, in_right}
use Rattle.dwz_def_tops.specs.Spots.{ASpace, ATop, EntryName, FileUnit, Nothing, Row, Top, row_tops, rows_of_root}
use Rattle.dwz_def_tops.proofs.RowLemmas.{from_row, top_of}
use Rattle.dwz_def_plan.specs.Children.{FirstOrOther, HoldsPinned, IsKeptRow, Parted, IsInRow}
use Rattle.dwz_def_plan.specs.Homes.{Rule, moves}
use Rattle.dwz_def_plan.specs.IsPlan.{Item, OfSpace, OfTop, Remains, Stays}
use Rattle.dwz_def_plan.specs.Plan.{Pinned, beside, kept_row, pinned_of}
use Rattle.dwz_def_plan.proofs.KeptOrder.{kept_order}

-- ---- a row behind another

beside_holds : (a b : Row) (x : Item) → IsInRow x a ⊎ IsInRow x b → IsInRow x (beside a b)
unfolding beside
beside_holds Nothing b x (inl h) = absurd h
beside_holds Nothing b x (inr h) = h
beside_holds (ATop t a) b x (inl (inl e)) = inl e
beside_holds (ATop t a) b x (inl (inr h)) = inr (beside_holds a b x (inl h))
beside_holds (ATop t a) b x (inr h) = inr (beside_holds a b x (inr h))
beside_holds (ASpace e i a) b x (inl (inl h)) = inl h
beside_holds (ASpace e i a) b x (inl (inr (inl h))) = inr (inl h)
beside_holds (ASpace e i a) b x (inl (inr (inr h))) = inr (inr (beside_holds a b x (inl h)))
beside_holds (ASpace e i a) b x (inr h) = inr (inr (beside_holds a b x (inr h)))

beside_held : (a b : Row) (x : Item) → IsInRow x (beside a b) → IsInRow x a ⊎ IsInRow x b
unfolding beside
beside_held Nothing b x h = inr h
beside_held (ATop t a) b x (inl e) = inl (inl e)
beside_held (ATop t a) b x (inr h) = elim (beside_held a b x h) [ inl z ↦ inl (inr z) | inr z ↦ inr z ]
beside_held (ASpace e i a) b x (inl h) = inl (inl h)
beside_held (ASpace e i a) b x (inr (inl h)) = inl (inr (inl h))
beside_held (ASpace e i a) b x (inr (inr h)) = elim (beside_held a b x h) [ inl z ↦ inl (inr (inr z)) | inr z ↦ inr z ]

-- ---- the tops of a row stand in it

tops_stand : (row : Row) (t : Top) → In t (row_tops row) → IsInRow (OfTop t) row
unfolding row_tops
tops_stand Nothing t h = absurd h
tops_stand (ATop u next) t (inl e) = inl (ap (λ (w : Top). OfTop w) e)
tops_stand (ATop u next) t (inr h) = inr (tops_stand next t h)
tops_stand (ASpace e inner next) t h = elim (in_cases t (row_tops inner) (row_tops next) h) [
  | inl a ↦ inr (inl (tops_stand inner t a))
  | inr b ↦ inr (inr (tops_stand next t b))
]

stand_tops : (row : Row) (t : Top) → IsInRow (OfTop t) row → In t (row_tops row)
unfolding row_tops
stand_tops Nothing t h = absurd h
stand_tops (ATop u next) t (inl e) = inl cc
stand_tops (ATop u next) t (inr h) = inr (stand_tops next t h)
stand_tops (ASpace e inner next) t (inl h) = absurd cc
stand_tops (ASpace e inner next) t (inr (inl h)) = in_left t (row_tops inner) (row_tops next) (stand_tops inner t h)
stand_tops (ASpace e inner next) t (inr (inr h)) = in_right t (row_tops inner) (row_tops next) (stand_tops next t h)

-- ---- what stands in one of two rows

abbrev Either : Item → Row → Row → Type 0
Either x first others = IsInRow x first ⊎ IsInRow x others

-- it is of the child, or in one of the rows behind it
abbrev Behind : Type 0 → (Row → Row → Type 0) → Item → Type 0
Behind Mine Rest x = Mine ⊎ ((first : Row) × (others : Row) × Rest first others × Either x first others)

goes_from : (IsFirst Mine : Type 0) (child : Row → Row) (Rest : Row → Row → Type 0) (x : Item) → ((next : Row) → IsInRow x (child next) → Mine ⊎ IsInRow x next)
    → (first others : Row) → FirstOrOther IsFirst child Rest first others → Either x first others → Behind Mine Rest x
goes_from IsFirst Mine child Rest x split first others (inl (i, g)) (inl s) = elim (split g.0 (subst (IsInRow x) g.1 s)) [ inl m ↦ inl m | inr n ↦ inr (g.0, others, g.2, inl n) ]
goes_from IsFirst Mine child Rest x split first others (inl (i, g)) (inr s) = inr (g.0, others, g.2, inr s)
goes_from IsFirst Mine child Rest x split first others (inr (i, g)) (inl s) = inr (first, g.0, g.2, inl s)
goes_from IsFirst Mine child Rest x split first others (inr (i, g)) (inr s) = elim (split g.0 (subst (IsInRow x) g.1 s)) [ inl m ↦ inl m | inr n ↦ inr (first, g.0, g.2, inr n) ]

goes_mine : (IsFirst : Type 0) (child : Row → Row) (Rest : Row → Row → Type 0) (x : Item) → ((next : Row) → IsInRow x (child next)) → (first others : Row)
    → FirstOrOther IsFirst child Rest first others → Either x first others
goes_mine IsFirst child Rest x own first others (inl (i, g)) = inl (subst (IsInRow x) (sym g.1) (own g.0))
goes_mine IsFirst child Rest x own first others (inr (i, g)) = inr (subst (IsInRow x) (sym g.1) (own g.0))

goes_on : (IsFirst : Type 0) (child : Row → Row) (Rest : Row → Row → Type 0) (x : Item) → ((next : Row) → IsInRow x next → IsInRow x (child next))
    → ((first others : Row) → Rest first others → Either x first others) → (first others : Row) → FirstOrOther IsFirst child Rest first others → Either x first others
goes_on IsFirst child Rest x later more first others (inl (i, g)) = elim (more g.0 others g.2) [ inl a ↦ inl (subst (IsInRow x) (sym g.1) (later g.0 a)) | inr b ↦ inr b ]
goes_on IsFirst child Rest x later more first others (inr (i, g)) = elim (more first g.0 g.2) [ inl a ↦ inl a | inr b ↦ inr (subst (IsInRow x) (sym g.1) (later g.0 b)) ]

-- ---- the two rows hold just what remains

module _ (p : Pinned) (gone : ℕ → Bool) where
  parted_from : (row first others : Row) → Parted p gone row first others → (x : Item) → Either x first others → IsInRow x row × Remains gone x
  parted_from Nothing first others h x (inl s) = absurd (subst (IsInRow x) h.0 s)
  parted_from Nothing first others h x (inr s) = absurd (subst (IsInRow x) h.1 s)
  parted_from (ATop t next) first others (inl (g, h)) x s = let o = parted_from next first others h x s in (inr o.0, o.1)
  parted_from (ATop t next) first others (inr (g, h)) x s =
      elim (goes_from (p.top t.number ≡ true) (OfTop t ≡ x) (ATop t) (Parted p gone next) x (λ n w. w) first others h s) [
        | inl e ↦ (inl e, subst (Remains gone) e g)
        | inr b ↦ (let o = parted_from next b.0 b.1 b.2 x b.3 in (inr o.0, o.1))
      ]
  parted_from (ASpace e inner next) first others (a, b, below, h) x s =
      elim (goes_from (HoldsPinned p gone e inner) ((OfSpace e ≡ x) ⊎ IsInRow x (beside a b)) (ASpace e (beside a b)) (Parted p gone next) x (λ n w. apart w) first others h s) [
        | inl (inl q) ↦ (inl q, subst (Remains gone) q tt)
        | inl (inr m) ↦ (let o = parted_from inner a b below x (beside_held a b x m) in (inr (inl o.0), o.1))
        | inr c ↦ (let o = parted_from next c.0 c.1 c.2 x c.3 in (inr (inr o.0), o.1))
      ]
    where
      apart : {A B C : Type 0} → A ⊎ (B ⊎ C) → (A ⊎ B) ⊎ C
      apart (inl a) = inl (inl a)
      apart (inr (inl b)) = inl (inr b)
      apart (inr (inr c)) = inr c

  parted_to : (row first others : Row) → Parted p gone row first others → (x : Item) → IsInRow x row → Remains gone x → Either x first others
  parted_to Nothing first others h x s r = absurd s
  parted_to (ATop t next) first others (inl (g, h)) x (inl e) r = absurd (let q : gone t.number ≡ false = subst (Remains gone) (sym e) r in cc)
  parted_to (ATop t next) first others (inl (g, h)) x (inr s) r = parted_to next first others h x s r
  parted_to (ATop t next) first others (inr (g, h)) x (inl e) r = goes_mine (p.top t.number ≡ true) (ATop t) (Parted p gone next) x (λ n. inl e) first others h
  parted_to (ATop t next) first others (inr (g, h)) x (inr s) r =
      goes_on (p.top t.number ≡ true) (ATop t) (Parted p gone next) x (λ n w. inr w) (λ f o d. parted_to next f o d x s r) first others h
  parted_to (ASpace e inner next) first others (a, b, below, h) x (inl q) r =
      goes_mine (HoldsPinned p gone e inner) (ASpace e (beside a b)) (Parted p gone next) x (λ n. inl q) first others h
  parted_to (ASpace e inner next) first others (a, b, below, h) x (inr (inl s)) r =
      goes_mine (HoldsPinned p gone e inner) (ASpace e (beside a b)) (Parted p gone next) x (λ n. inr (inl (beside_holds a b x (parted_to inner a b below x s r)))) first others h
  parted_to (ASpace e inner next) first others (a, b, below, h) x (inr (inr s)) r =
      goes_on (HoldsPinned p gone e inner) (ASpace e (beside a b)) (Parted p gone next) x (λ n w. inr (inr w)) (λ f o d. parted_to next f o d x s r) first others h

  kept_holds : (row kept : Row) → IsKeptRow p gone row kept → (x : Item) → IsInRow x kept ↔ (IsInRow x row × Remains gone x)
  kept_holds row kept k x = (
    (λ s. parted_from row k.first k.others k.parted x (beside_held k.first k.others x (subst (IsInRow x) k.kept_is s))),
    (λ h. subst (IsInRow x) (sym k.kept_is) (beside_holds k.first k.others x (parted_to row k.first k.others k.parted x h.0 h.1))),
  )

-- ---- of a unit

pub kept_tops : (units : List (FileUnit EntryName)) (rule : Rule) (unit : ℕ) (t : Top) → In t (row_tops (kept_row (moves rule units) units unit)) ↔ Stays rule units unit t
kept_tops units rule unit t = (
  (λ h.
      let o = (holds t).0 (tops_stand kept t h) in
      let u = from_row 0 0 units unit t (stand_tops (rows_of_root units unit) t o.0) in
      (u.0, u.1, o.1)),
  (λ h.
      let u = top_of 0 0 units t h.0 in
      let there : In t (row_tops (rows_of_root units unit)) = subst (λ (w : ℕ). In t (row_tops (rows_of_root units w))) h.1 u.in_row in
      stand_tops kept t ((holds t).1 (tops_stand (rows_of_root units unit) t there, h.2))),
) where
  kept : Row
  kept = kept_row (moves rule units) units unit

  is : IsKeptRow (pinned_of units) (moves rule units) (rows_of_root units unit) kept
  is = (kept_order (pinned_of units) (moves rule units) (rows_of_root units unit) kept).1 refl

  holds : (t : Top) → IsInRow (OfTop t) kept ↔ (IsInRow (OfTop t) (rows_of_root units unit) × (moves rule units t.number ≡ false))
  holds t = kept_holds (pinned_of units) (moves rule units) (rows_of_root units unit) kept is (OfTop t)
