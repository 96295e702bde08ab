-- What the rows hold that are kept, and those of partial units.
use Rattle.std.proofs.Common.{◌≡◌, ◌↔◌, ◌⊎◌, ℕ, ◌||◌, Bool, true, false, List, [], ◌∷◌, refl, sym, ap, subst, inl, inr}
use Rattle.dwz_def_reading.specs.Documents.{Node}
use Rattle.dwz_def_reading.specs.Lists.{In}
use Rattle.dwz_def_tops.specs.Deciding.{same_bool}
use Rattle.dwz_def_tops.specs.Spots.{ASpace, ATop, EntryName, FileUnit, Nothing, Row, Top, rows_of_root}
use Rattle.dwz_def_plan.specs.IsPlan.{Has, Item, OfTop, Remains, RowStays}
use Rattle.dwz_def_plan.specs.Plan.{Pinned, beside, kept_row, pinned_of, row_part, row_pinned, row_staying, top_row}

-- ---- what stays

module _ (moving : ℕ → Bool) where
  stays_to : (row : Row) (names : List (List ℕ)) (x : Item) → Has names x row → Remains moving x → Has names x (row_staying moving row)
  unfolding row_staying
  stays_to Nothing names x h r = absurd h
  stays_to (ATop t next) names x h r = go (stays_to next names x) h (moving t.number) refl where
    go : (Has names x next → Remains moving x → Has names x (row_staying moving next)) → Has names x (ATop t next) → (b : Bool) → moving t.number ≡ b
        → Has names x (elim b as (λ _. Row) [ true ↦ row_staying moving next | false ↦ ATop t (row_staying moving next) ])
    go more (inl y) true q = absurd (let z : moving t.number ≡ false = subst (Remains moving) (sym y.1) r in cc)
    go more (inr y) true q = more y r
    go more (inl y) false q = inl y
    go more (inr y) false q = inr (more y r)
  stays_to (ASpace e inner next) names x (inl y) r = inl y
  stays_to (ASpace e inner next) names x (inr (inl i)) r = inr (inl (i.0, i.1, i.2, i.3, stays_to inner i.1 x i.4 r))
  stays_to (ASpace e inner next) names x (inr (inr y)) r = inr (inr (stays_to next names x y r))

  stays_from : (row : Row) (names : List (List ℕ)) (x : Item) → Has names x (row_staying moving row) → Has names x row × Remains moving x
  unfolding row_staying
  stays_from Nothing names x h = absurd h
  stays_from (ATop t next) names x h = go (stays_from next names x) (moving t.number) refl h where
    go : (Has names x (row_staying moving next) → Has names x next × Remains moving x) → (b : Bool) → moving t.number ≡ b
        → Has names x (elim b as (λ _. Row) [ true ↦ row_staying moving next | false ↦ ATop t (row_staying moving next) ]) → Has names x (ATop t next) × Remains moving x
    go more true q y = let o = more y in (inr o.0, o.1)
    go more false q (inl y) = (inl y, subst (Remains moving) y.1 q)
    go more false q (inr y) = let o = more y in (inr o.0, o.1)
  stays_from (ASpace e inner next) names x (inl y) = (inl y, subst (Remains moving) y.1 tt)
  stays_from (ASpace e inner next) names x (inr (inl i)) = let o = stays_from inner i.1 x i.4 in (inr (inl (i.0, i.1, i.2, i.3, o.0)), o.1)
  stays_from (ASpace e inner next) names x (inr (inr y)) = let o = stays_from next names x y in (inr (inr o.0), o.1)

-- ---- pinned ones first

module _ (p : Pinned) where
  abbrev pinned_row : Row → Row
  pinned_row row = row_part p true row (row_part p false row Nothing)

  -- what follows is there
  part_last : (want : Bool) (row last : Row) (names : List (List ℕ)) (x : Item) → Has names x last → Has names x (row_part p want row last)
  unfolding row_part
  part_last want Nothing last names x h = h
  part_last want (ATop t next) last names x h = go (part_last want next last names x h) (same_bool (p.top t.number) want) where
    go : Has names x (row_part p want next last) → (b : Bool) → Has names x (elim b as (λ _. Row) [ true ↦ ATop t (row_part p want next last) | false ↦ row_part p want next last ])
    go y true = inr y
    go y false = y
  part_last want (ASpace e inner next) last names x h = go (part_last want next last names x h) (same_bool (p.space e.at || row_pinned p inner) want) where
    go : Has names x (row_part p want next last) → (b : Bool) → Has names x
        (elim b as (λ _. Row) [ true ↦ ASpace e (pinned_row inner) (row_part p want next last) | false ↦ row_part p want next last ])
    go y true = inr (inr y)
    go y false = y

  -- it is in the part of those that are pinned, or of the others
  abbrev InPart : List (List ℕ) → Item → Row → Type 0
  InPart names x row = (want : Bool) × ((last : Row) → Has names x (row_part p want row last))

  same_own : (b : Bool) → same_bool b b ≡ true
  same_own true = refl
  same_own false = refl

  later_top : (t : Top) (next : Row) (names : List (List ℕ)) (x : Item) → InPart names x next → InPart names x (ATop t next)
  unfolding row_part
  later_top t next names x h = (h.0, λ last. go last (h.1 last) (same_bool (p.top t.number) h.0)) where
    go : (last : Row) → Has names x (row_part p h.0 next last) → (b : Bool) → Has names x (elim b as (λ _. Row) [ true ↦ ATop t (row_part p h.0 next last) | false ↦ row_part p h.0 next last ])
    go last y true = inr y
    go last y false = y

  later_space : (e : Node EntryName) (inner next : Row) (names : List (List ℕ)) (x : Item) → InPart names x next → InPart names x (ASpace e inner next)
  unfolding row_part
  later_space e inner next names x h = (h.0, λ last. go last (h.1 last) (same_bool (p.space e.at || row_pinned p inner) h.0)) where
    go : (last : Row) → Has names x (row_part p h.0 next last) → (b : Bool)
        → Has names x (elim b as (λ _. Row) [ true ↦ ASpace e (pinned_row inner) (row_part p h.0 next last) | false ↦ row_part p h.0 next last ])
    go last y true = inr (inr y)
    go last y false = y

  first_top : (t : Top) (next : Row) (names : List (List ℕ)) (x : Item) → (names ≡ []) × (OfTop t ≡ x) → InPart names x (ATop t next)
  unfolding row_part
  first_top t next names x h = (
    p.top t.number,
    λ last. subst (λ (b : Bool). Has names x (elim b as (λ _. Row) [ true ↦ ATop t (row_part p (p.top t.number) next last) | false ↦ row_part p (p.top t.number) next last ]))
        (sym (same_own (p.top t.number))) (inl h),
  )

  first_space : (e : Node EntryName) (inner next : Row) (names : List (List ℕ)) (x : Item) → ((next' : Row) → Has names x (ASpace e (pinned_row inner) next')) → InPart names x (ASpace e inner next)
  unfolding row_part
  first_space e inner next names x h =
      let own = p.space e.at || row_pinned p inner in (
        own,
        λ last. subst (λ (b : Bool). Has names x (elim b as (λ _. Row) [ true ↦ ASpace e (pinned_row inner) (row_part p own next last) | false ↦ row_part p own next last ])) (sym (same_own own))
            (h (row_part p own next last)),
      )

  joined : (names : List (List ℕ)) (x : Item) (row : Row) → InPart names x row → Has names x (pinned_row row)
  joined names x row (true, h) = h (row_part p false row Nothing)
  joined names x row (false, h) = part_last true row (row_part p false row Nothing) names x (h Nothing)

  in_part : (row : Row) (names : List (List ℕ)) (x : Item) → Has names x row → InPart names x row
  in_part Nothing names x h = absurd h
  in_part (ATop t next) names x (inl y) = first_top t next names x y
  in_part (ATop t next) names x (inr y) = later_top t next names x (in_part next names x y)
  in_part (ASpace e inner next) names x (inl y) = first_space e inner next names x (λ n. inl y)
  in_part (ASpace e inner next) names x (inr (inl i)) = let o = joined i.1 x inner (in_part inner i.1 x i.4) in first_space e inner next names x (λ n. inr (inl (i.0, i.1, i.2, i.3, o)))
  in_part (ASpace e inner next) names x (inr (inr y)) = later_space e inner next names x (in_part next names x y)

  -- nothing else is there
  part_from : (want : Bool) (row last : Row) (names : List (List ℕ)) (x : Item) → Has names x (row_part p want row last) → Has names x row ⊎ Has names x last
  unfolding row_part
  part_from want Nothing last names x h = inr h
  part_from want (ATop t next) last names x h = go (part_from want next last names x) (same_bool (p.top t.number) want) h where
    later : Has names x next ⊎ Has names x last → Has names x (ATop t next) ⊎ Has names x last
    later (inl a) = inl (inr a)
    later (inr b) = inr b

    go : (Has names x (row_part p want next last) → Has names x next ⊎ Has names x last) → (b : Bool)
        → Has names x (elim b as (λ _. Row) [ true ↦ ATop t (row_part p want next last) | false ↦ row_part p want next last ]) → Has names x (ATop t next) ⊎ Has names x last
    go more true (inl y) = inl (inl y)
    go more true (inr y) = later (more y)
    go more false y = later (more y)
  part_from want (ASpace e inner next) last names x h =
      go (part_from want next last names x) (λ others. part_from true inner (row_part p false inner Nothing) others x) (λ others. part_from false inner Nothing others x)
      (same_bool (p.space e.at || row_pinned p inner) want) h
    where
      later : Has names x next ⊎ Has names x last → Has names x (ASpace e inner next) ⊎ Has names x last
      later (inl a) = inl (inr (inr a))
      later (inr b) = inr b

      both : (others : List (List ℕ)) → (Has others x (row_part p false inner Nothing) → Has others x inner ⊎ ⊥) → Has others x inner ⊎ Has others x (row_part p false inner Nothing)
          → Has others x inner
      both others f (inl a) = a
      both others f (inr b) = elim (f b) [ inl c ↦ c | inr d ↦ absurd d ]

      go : (Has names x (row_part p want next last) → Has names x next ⊎ Has names x last)
          → ((others : List (List ℕ)) → Has others x (pinned_row inner) → Has others x inner ⊎ Has others x (row_part p false inner Nothing))
          → ((others : List (List ℕ)) → Has others x (row_part p false inner Nothing) → Has others x inner ⊎ ⊥)
          → (b : Bool) → Has names x (elim b as (λ _. Row) [ true ↦ ASpace e (pinned_row inner) (row_part p want next last) | false ↦ row_part p want next last ])
          → Has names x (ASpace e inner next) ⊎ Has names x last
      go more f g true (inl y) = inl (inl y)
      go more f g true (inr (inl i)) = inl (inr (inl (i.0, i.1, i.2, i.3, both i.1 (g i.1) (f i.1 i.4))))
      go more f g true (inr (inr y)) = later (more y)
      go more f g false y = later (more y)

  pub pinned_is : (row : Row) (names : List (List ℕ)) (x : Item) → Has names x (pinned_row row) ↔ Has names x row
  pinned_is row names x = (
    (λ h. elim (part_from true row (row_part p false row Nothing) names x h) [
      | inl a ↦ a
      | inr b ↦ (elim (part_from false row Nothing names x b) [ inl c ↦ c | inr d ↦ absurd d ])
    ]),
    (λ h. joined names x row (in_part row names x h)),
  )

pub kept_is : (gone : ℕ → Bool) (units : List (FileUnit EntryName)) (unit : ℕ) → RowStays gone (rows_of_root units unit) (kept_row gone units unit)
kept_is gone units unit = λ names x. (
  (λ h. stays_from gone (rows_of_root units unit) names x ((pinned_is (pinned_of units) (row_staying gone (rows_of_root units unit)) names x).0 h)),
  (λ h. (pinned_is (pinned_of units) (row_staying gone (rows_of_root units unit)) names x).1 (stays_to gone (rows_of_root units unit) names x h.0 h.1)),
)

-- ---- tops beside each other

pub top_row_to : (tops : List Top) (last : Row) (t : Top) → In t tops → Has [] (OfTop t) (top_row tops last)
unfolding top_row
top_row_to [] last t h = absurd h
top_row_to (u ∷ tops) last t (inl e) = inl (refl, ap (λ (w : Top). OfTop w) e)
top_row_to (u ∷ tops) last t (inr r) = inr (top_row_to tops last t r)

pub top_row_last : (tops : List Top) (last : Row) (names : List (List ℕ)) (x : Item) → Has names x last → Has names x (top_row tops last)
unfolding top_row
top_row_last [] last names x h = h
top_row_last (u ∷ tops) last names x h = inr (top_row_last tops last names x h)

-- it is a top of the list
pub record IsOne (tops : List Top) (names : List (List ℕ)) (x : Item) : Type 0 where
  pub top : Top
  pub there : In top tops
  pub none : names ≡ []
  pub is : OfTop top ≡ x

pub top_row_from : (tops : List Top) (last : Row) (names : List (List ℕ)) (x : Item) → Has names x (top_row tops last) → IsOne tops names x ⊎ Has names x last
unfolding top_row
top_row_from [] last names x h = inr h
top_row_from (u ∷ tops) last names x (inl y) = inl (record { top = u; there = inl refl; none = y.0; is = y.1 })
top_row_from (u ∷ tops) last names x (inr r) = elim (top_row_from tops last names x r) [
  | inl a ↦ inl (record { top = a.top; there = inr a.there; none = a.none; is = a.is })
  | inr b ↦ inr b
]

-- ---- rows beside each other

pub beside_left : (a b : Row) (names : List (List ℕ)) (x : Item) → Has names x a → Has names x (beside a b)
unfolding beside
beside_left Nothing b names x h = absurd h
beside_left (ATop t a) b names x (inl y) = inl y
beside_left (ATop t a) b names x (inr y) = inr (beside_left a b names x y)
beside_left (ASpace e i a) b names x (inl y) = inl y
beside_left (ASpace e i a) b names x (inr (inl y)) = inr (inl y)
beside_left (ASpace e i a) b names x (inr (inr y)) = inr (inr (beside_left a b names x y))

pub beside_right : (a b : Row) (names : List (List ℕ)) (x : Item) → Has names x b → Has names x (beside a b)
unfolding beside
beside_right Nothing b names x h = h
beside_right (ATop t a) b names x h = inr (beside_right a b names x h)
beside_right (ASpace e i a) b names x h = inr (inr (beside_right a b names x h))

pub beside_from : (a b : Row) (names : List (List ℕ)) (x : Item) → Has names x (beside a b) → Has names x a ⊎ Has names x b
unfolding beside
beside_from Nothing b names x h = inr h
beside_from (ATop t a) b names x (inl y) = inl (inl y)
beside_from (ATop t a) b names x (inr y) = elim (beside_from a b names x y) [ inl z ↦ inl (inr z) | inr z ↦ inr z ]
beside_from (ASpace e i a) b names x (inl y) = inl (inl y)
beside_from (ASpace e i a) b names x (inr (inl y)) = inl (inr (inl y))
beside_from (ASpace e i a) b names x (inr (inr y)) = elim (beside_from a b names x y) [ inl z ↦ inl (inr (inr z)) | inr z ↦ inr z ]
