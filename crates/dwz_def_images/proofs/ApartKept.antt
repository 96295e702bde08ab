-- In the row of an old unit each name stands once, and in what is kept of it, pinned ones first.
use Rattle.std.proofs.Common.{◌≡◌, ℕ, ℤ, suc, ◌+◌, ◌<◌, ◌≤◌, ◌⊎◌, ◌||◌, Bool, true, false, List, [], ◌∷◌, ◌++◌, Option, refl, sym, ap, subst, ◌∙◌, arith, inl, inr, append_assoc}
use Rattle.dwz_def_reading.specs.Documents.{Entries, Node}
use Rattle.dwz_def_reading.specs.Lists.{In}
use Rattle.dwz_def_reading.specs.Trees.{End, Entry}
use Rattle.dwz_def_reading.proofs.ListFacts.{in_cases, in_left, in_right}
use Rattle.dwz_def_tops.specs.Lists.{NoneTwice}
use Rattle.dwz_def_tops.specs.Spaces.{tops_under}
use Rattle.dwz_def_tops.specs.Deciding.{same_bool}
use Rattle.dwz_def_tops.specs.Spots.{ASpace, ATop, EntryName, LabelledSpaces, Nothing, Row, SpaceAt, SpaceName, Top, Within, name_of}
use Rattle.dwz_def_tops.proofs.RowLemmas.{RowIs, count_space, count_top}
use Rattle.dwz_def_plan.specs.Plan.{Pinned, row_part, row_pinned, row_staying}
use Rattle.dwz_def_images.proofs.ApartTrees.{Behind, here_inner, here_rest, inner_rest, row_keys}
use Rattle.dwz_def_tops.proofs.OnceLemmas.{none_append, none_both, none_left, none_right}

-- ---- the row of an old unit

space_path : (unit : ℕ) (p q : List ℕ) → SpaceAt unit p ≡ SpaceAt unit q → p ≡ q
space_path unit p q e = cc

module _ (file unit : ℕ) (tongue : Option ℤ) where
  -- a top from a number on and before another, or a space at an index or behind it
  pub data InRow (n m : ℕ) (path : List ℕ) (i : ℕ) (k : EntryName) : Type 0 where
    TopKey : (j : ℕ) → n ≤ j → j < m → k ≡ Within j [] → InRow n m path i k
    SpaceKey : Behind (SpaceAt unit) path i k → InRow n m path i k

  in_row : (spaces : List SpaceName) (n : ℕ) (items : Row) (g : Entries EntryName) → RowIs file unit tongue spaces n items g → (path : List ℕ) (i : ℕ) → LabelledSpaces unit path i items
      → (k : EntryName)
      → In k (row_keys items) → InRow n (n + tops_under g) path i k
  in_row spaces n Nothing g h path i l k is = absurd is
  in_row spaces n (ATop t next) (Entry e f g) h path i l k (inl x) =
      let number : t.number ≡ n = ap (λ (w : Top). w.number) (sym h.1) in
      TopKey n (omega arith) (omega (arith, count_top file unit tongue e f g h.0)) (sym x ∙ ap (λ (w : ℕ). Within w []) number)
  in_row spaces n (ATop t next) (Entry e f g) h path i l k (inr r) = later (in_row spaces (suc n) next g h.2 path (suc i) l k r) where
    later : InRow (suc n) (suc n + tops_under g) path (suc i) k → InRow n (n + tops_under (Entry e f g)) path i k
    later (TopKey j a b x) = TopKey j (omega (arith, a)) (omega (arith, b, count_top file unit tongue e f g h.0)) x
    later (SpaceKey b) = SpaceKey (record { first = b.first; index = b.index; from = omega (arith, b.from); is = b.is })
  in_row spaces n (ASpace d inner next) (Entry e f g) h path i l k (inl x) = SpaceKey (record { first = []; index = i; from = omega arith; is = sym x ∙ l.0 })
  in_row spaces n (ASpace d inner next) (Entry e f g) h path i l k (inr r) =
      pick (in_row (spaces ++ name_of h.0 e ∷ []) n inner f h.3 (i ∷ path) 0 l.1 k) (in_row spaces (n + tops_under f) next g h.4 path (suc i) l.2 k) (in_cases k (row_keys inner) (row_keys next) r)
    where
      inside : InRow n (n + tops_under f) (i ∷ path) 0 k → InRow n (n + tops_under (Entry e f g)) path i k
      inside (TopKey j a b x) = TopKey j a (omega (arith, b, count_space file unit tongue e f g h.0 h.1)) x
      inside (SpaceKey b) = SpaceKey (record { first = b.first ++ (b.index ∷ []); index = i; from = omega arith; is = b.is ∙ ap (SpaceAt unit) (sym (append_assoc b.first (b.index ∷ []) (i ∷ path))) })

      later : InRow (n + tops_under f) (n + tops_under f + tops_under g) path (suc i) k → InRow n (n + tops_under (Entry e f g)) path i k
      later (TopKey j a b x) = TopKey j (omega (arith, a)) (omega (arith, b, count_space file unit tongue e f g h.0 h.1)) x
      later (SpaceKey b) = SpaceKey (record { first = b.first; index = b.index; from = omega (arith, b.from); is = b.is })

      pick : (In k (row_keys inner) → InRow n (n + tops_under f) (i ∷ path) 0 k) → (In k (row_keys next) → InRow (n + tops_under f) (n + tops_under f + tops_under g) path (suc i) k)
          → In k (row_keys inner) ⊎ In k (row_keys next) → InRow n (n + tops_under (Entry e f g)) path i k
      pick a b (inl x) = inside (a x)
      pick a b (inr y) = later (b y)
  in_row spaces n (ATop t next) End h path i l k is = absurd h
  in_row spaces n (ASpace d inner next) End h path i l k is = absurd h

  pub row_none : (spaces : List SpaceName) (n : ℕ) (items : Row) (g : Entries EntryName) → RowIs file unit tongue spaces n items g → (path : List ℕ) (i : ℕ) → LabelledSpaces unit path i items
      → NoneTwice (row_keys items)
  row_none spaces n Nothing g h path i l = tt
  row_none spaces n (ATop t next) (Entry e f g) h path i l = (
    (λ is. first (in_row spaces (suc n) next g h.2 path (suc i) l (Within t.number []) is)),
    row_none spaces (suc n) next g h.2 path (suc i) l,
  )
    where
      number : t.number ≡ n
      number = ap (λ (w : Top). w.number) (sym h.1)

      first : InRow (suc n) (suc n + tops_under g) path (suc i) (Within t.number []) → ⊥
      first (TopKey j a b x) = (let same : t.number ≡ j = cc in omega (arith, a, same, number))
      first (SpaceKey b) = (let x = b.is in cc)
  row_none spaces n (ASpace d inner next) (Entry e f g) h path i l = (
    (λ is. first (in_cases d.at (row_keys inner) (row_keys next) is)),
    none_append (row_keys inner) (row_keys next) (row_none (spaces ++ name_of h.0 e ∷ []) n inner f h.3 (i ∷ path) 0 l.1) (row_none spaces (n + tops_under f) next g h.4 path (suc i) l.2)
        (λ k a b. meet k (in_row (spaces ++ name_of h.0 e ∷ []) n inner f h.3 (i ∷ path) 0 l.1 k a) (in_row spaces (n + tops_under f) next g h.4 path (suc i) l.2 k b)),
  )
    where
      first_inside : InRow n (n + tops_under f) (i ∷ path) 0 d.at → ⊥
      first_inside (TopKey j a b x) = (let y : SpaceAt unit (i ∷ path) ≡ Within j [] = sym l.0 ∙ x in cc)
      first_inside (SpaceKey b) = here_inner (SpaceAt unit) (space_path unit) path i (subst (Behind (SpaceAt unit) (i ∷ path) 0) l.0 b)

      first_later : InRow (n + tops_under f) (n + tops_under f + tops_under g) path (suc i) d.at → ⊥
      first_later (TopKey j a b x) = (let y : SpaceAt unit (i ∷ path) ≡ Within j [] = sym l.0 ∙ x in cc)
      first_later (SpaceKey b) = here_rest (SpaceAt unit) (space_path unit) path i (subst (Behind (SpaceAt unit) path (suc i)) l.0 b)

      first : In d.at (row_keys inner) ⊎ In d.at (row_keys next) → ⊥
      first (inl a) = first_inside (in_row (spaces ++ name_of h.0 e ∷ []) n inner f h.3 (i ∷ path) 0 l.1 d.at a)
      first (inr b) = first_later (in_row spaces (n + tops_under f) next g h.4 path (suc i) l.2 d.at b)

      meet : (k : EntryName) → InRow n (n + tops_under f) (i ∷ path) 0 k → InRow (n + tops_under f) (n + tops_under f + tops_under g) path (suc i) k → ⊥
      meet k (TopKey j a b x) (TopKey m c e y) = (let same : j ≡ m = (let z : Within j [] ≡ Within m [] = sym x ∙ y in cc) in omega (arith, b, c, same))
      meet k (TopKey j a b x) (SpaceKey c) = (let z : Within j [] ≡ SpaceAt unit (c.first ++ (c.index ∷ path)) = sym x ∙ c.is in cc)
      meet k (SpaceKey b) (TopKey m c e y) = (let z : Within m [] ≡ SpaceAt unit (b.first ++ (b.index ∷ (i ∷ path))) = sym y ∙ b.is in cc)
      meet k (SpaceKey b) (SpaceKey c) = inner_rest (SpaceAt unit) (space_path unit) path i k b c
  row_none spaces n (ATop t next) End h path i l = absurd h
  row_none spaces n (ASpace d inner next) End h path i l = absurd h

-- ---- what stays of it

staying_in : (moving : ℕ → Bool) (items : Row) (k : EntryName) → In k (row_keys (row_staying moving items)) → In k (row_keys items)
unfolding row_staying
staying_in moving Nothing k h = h
staying_in moving (ATop t next) k h = go (staying_in moving next k) (moving t.number) h where
  go : (In k (row_keys (row_staying moving next)) → In k (row_keys next)) → (b : Bool)
      → In k (row_keys (elim b as (λ _. Row) [ true ↦ row_staying moving next | false ↦ ATop t (row_staying moving next) ])) → In k (row_keys (ATop t next))
  go more true x = inr (more x)
  go more false (inl x) = inl x
  go more false (inr x) = inr (more x)
staying_in moving (ASpace e inner next) k (inl x) = inl x
staying_in moving (ASpace e inner next) k (inr r) = inr (elim (in_cases k (row_keys (row_staying moving inner)) (row_keys (row_staying moving next)) r) [
  | inl a ↦ in_left k (row_keys inner) (row_keys next) (staying_in moving inner k a)
  | inr b ↦ in_right k (row_keys inner) (row_keys next) (staying_in moving next k b)
])

pub staying_none : (moving : ℕ → Bool) (items : Row) → NoneTwice (row_keys items) → NoneTwice (row_keys (row_staying moving items))
unfolding row_staying
staying_none moving Nothing h = tt
staying_none moving (ATop t next) h = go (staying_none moving next h.1) (moving t.number) where
  go : NoneTwice (row_keys (row_staying moving next)) → (b : Bool) → NoneTwice (row_keys (elim b as (λ _. Row) [ true ↦ row_staying moving next | false ↦ ATop t (row_staying moving next) ]))
  go more true = more
  go more false = ((λ is. h.0 (staying_in moving next (Within t.number []) is)), more)
staying_none moving (ASpace e inner next) h = (
  (λ is. h.0 (elim (in_cases e.at (row_keys (row_staying moving inner)) (row_keys (row_staying moving next)) is) [
    | inl a ↦ in_left e.at (row_keys inner) (row_keys next) (staying_in moving inner e.at a)
    | inr b ↦ in_right e.at (row_keys inner) (row_keys next) (staying_in moving next e.at b)
  ])),
  none_append (row_keys (row_staying moving inner)) (row_keys (row_staying moving next)) (staying_none moving inner (none_left (row_keys inner) (row_keys next) h.1))
      (staying_none moving next (none_right (row_keys inner) (row_keys next) h.1))
      (λ k a b. none_both (row_keys inner) (row_keys next) h.1 k (staying_in moving inner k a) (staying_in moving next k b)),
)

-- ---- pinned ones first

module _ (p : Pinned) where
  abbrev some : Bool → Row → List EntryName
  some want items = row_keys (row_part p want items Nothing)

  -- a part, and what follows
  part_keys : (want : Bool) (items last : Row) → row_keys (row_part p want items last) ≡ some want items ++ row_keys last
  unfolding row_part
  part_keys want Nothing last = refl
  part_keys want (ATop t next) last = go (part_keys want next last) (same_bool (p.top t.number) want) where
    go : row_keys (row_part p want next last) ≡ some want next ++ row_keys last → (b : Bool)
        → row_keys (elim b as (λ _. Row) [ true ↦ ATop t (row_part p want next last) | false ↦ row_part p want next last ])
        ≡ row_keys (elim b as (λ _. Row) [ true ↦ ATop t (row_part p want next Nothing) | false ↦ row_part p want next Nothing ]) ++ row_keys last
    go more true = ap (λ (w : List EntryName). Within t.number [] ∷ w) more
    go more false = more
  part_keys want (ASpace e inner next) last = go (part_keys want next last) (same_bool (p.space e.at || row_pinned p inner) want) where
    within : List EntryName
    within = row_keys (row_part p true inner (row_part p false inner Nothing))

    go : row_keys (row_part p want next last) ≡ some want next ++ row_keys last → (b : Bool)
        → row_keys (elim b as (λ _. Row) [ true ↦ ASpace e (row_part p true inner (row_part p false inner Nothing)) (row_part p want next last) | false ↦ row_part p want next last ])
        ≡ row_keys (elim b as (λ _. Row) [ true ↦ ASpace e (row_part p true inner (row_part p false inner Nothing)) (row_part p want next Nothing) | false ↦ row_part p want next Nothing ])
        ++ row_keys last
    go more true = ap (λ (w : List EntryName). e.at ∷ w) (ap (λ (w : List EntryName). within ++ w) more ∙ sym (append_assoc within (some want next) (row_keys last)))
    go more false = more

  abbrev first_keys : Row → List EntryName
  first_keys items = row_keys (row_part p true items (row_part p false items Nothing))

  first_is : (items : Row) → first_keys items ≡ some true items ++ some false items
  first_is items = part_keys true items (row_part p false items Nothing)

  part_in : (want : Bool) (items : Row) (k : EntryName) → In k (some want items) → In k (row_keys items)
  unfolding row_part
  part_in want Nothing k h = h
  part_in want (ATop t next) k h = go (part_in want next k) (same_bool (p.top t.number) want) h where
    go : (In k (some want next) → In k (row_keys next)) → (b : Bool) → In k (row_keys (elim b as (λ _. Row) [ true ↦ ATop t (row_part p want next Nothing) | false ↦ row_part p want next Nothing ]))
        → In k (row_keys (ATop t next))
    go more true (inl x) = inl x
    go more true (inr x) = inr (more x)
    go more false x = inr (more x)
  part_in want (ASpace e inner next) k h = go (part_in true inner k) (part_in false inner k) (part_in want next k) (same_bool (p.space e.at || row_pinned p inner) want) h where
    inside : (In k (some true inner) → In k (row_keys inner)) → (In k (some false inner) → In k (row_keys inner)) → In k (first_keys inner) → In k (row_keys inner)
    inside a b x = elim (in_cases k (some true inner) (some false inner) (subst (In k) (first_is inner) x)) [ inl y ↦ a y | inr y ↦ b y ]

    go : (In k (some true inner) → In k (row_keys inner)) → (In k (some false inner) → In k (row_keys inner)) → (In k (some want next) → In k (row_keys next)) → (b : Bool)
        → In k (row_keys (elim b as (λ _. Row) [ true ↦ ASpace e (row_part p true inner (row_part p false inner Nothing)) (row_part p want next Nothing) | false ↦ row_part p want next Nothing ]))
        → In k (row_keys (ASpace e inner next))
    go a b more true (inl x) = inl x
    go a b more true (inr r) = inr (elim (in_cases k (first_keys inner) (some want next) r) [
      | inl x ↦ in_left k (row_keys inner) (row_keys next) (inside a b x)
      | inr y ↦ in_right k (row_keys inner) (row_keys next) (more y)
    ])
    go a b more false x = inr (in_right k (row_keys inner) (row_keys next) (more x))

  first_in : (items : Row) (k : EntryName) → In k (first_keys items) → In k (row_keys items)
  first_in items k h = elim (in_cases k (some true items) (some false items) (subst (In k) (first_is items) h)) [ inl a ↦ part_in true items k a | inr b ↦ part_in false items k b ]
  -- ---- no name stands twice in either part, nor in both

-- in two lists
pub record ListsOnce (a b : List EntryName) : Type 0 where
  pub yes : NoneTwice a
  pub no : NoneTwice b
  pub apart : (k : EntryName) → In k a → In k b → ⊥

lists_by : (a a' b b' : List EntryName) → a ≡ a' → b ≡ b' → ListsOnce a b → ListsOnce a' b'
lists_by a a' b b' e f o = subst (ListsOnce a') f (subst (λ (w : List EntryName). ListsOnce w b) e o)

abbrev with_if : Bool → List EntryName → List EntryName → List EntryName
with_if t xs a = elim t as (λ _. List EntryName) [ true ↦ xs ++ a | false ↦ a ]

step_once : (xs a b : List EntryName) → NoneTwice xs → ((k : EntryName) → In k xs → In k a → ⊥) → ((k : EntryName) → In k xs → In k b → ⊥) → ListsOnce a b → (t : Bool)
    → ListsOnce (with_if (same_bool t true) xs a) (with_if (same_bool t false) xs b)
step_once xs a b once f g o true = record {
  yes = none_append xs a once o.yes f;
  no = o.no;
  apart = λ k x y. elim (in_cases k xs a x) [ inl z ↦ g k z y | inr z ↦ o.apart k z y ];
}
step_once xs a b once f g o false = record {
  yes = o.yes;
  no = none_append xs b once o.no g;
  apart = λ k x y. elim (in_cases k xs b y) [ inl z ↦ f k z x | inr z ↦ o.apart k x z ];
}

module _ (p : Pinned) where
  top_pushed : (t : Top) (next : Row) (b : Bool) → with_if b (Within t.number [] ∷ []) (row_keys next) ≡ row_keys (elim b as (λ _. Row) [ true ↦ ATop t next | false ↦ next ])
  top_pushed t next true = refl
  top_pushed t next false = refl

  space_pushed : (e : Node EntryName) (inner next : Row) (b : Bool) → with_if b (e.at ∷ row_keys inner) (row_keys next) ≡ row_keys (elim b as (λ _. Row) [ true ↦ ASpace e inner next | false ↦ next ])
  space_pushed e inner next true = refl
  space_pushed e inner next false = refl

  top_some : (want : Bool) (t : Top) (next : Row) → with_if (same_bool (p.top t.number) want) (Within t.number [] ∷ []) (some p want next) ≡ some p want (ATop t next)
  unfolding row_part
  top_some want t next = top_pushed t (row_part p want next Nothing) (same_bool (p.top t.number) want)

  space_some : (want : Bool) (e : Node EntryName) (inner next : Row) → with_if (same_bool (p.space e.at || row_pinned p inner) want) (e.at ∷ first_keys p inner) (some p want next)
      ≡ some p want (ASpace e inner next)
  unfolding row_part
  space_some want e inner next = space_pushed e (row_part p true inner (row_part p false inner Nothing)) (row_part p want next Nothing) (same_bool (p.space e.at || row_pinned p inner) want)

  first_once : (items : Row) → ListsOnce (some p true items) (some p false items) → NoneTwice (first_keys p items)
  first_once items o = subst NoneTwice (sym (first_is p items)) (none_append (some p true items) (some p false items) o.yes o.no o.apart)

  nothing_once : ListsOnce (some p true Nothing) (some p false Nothing)
  unfolding row_part
  nothing_once = record { yes = tt; no = tt; apart = λ k a b. a }

  parts_once : (items : Row) → NoneTwice (row_keys items) → ListsOnce (some p true items) (some p false items)
  parts_once Nothing h = nothing_once
  parts_once (ATop t next) h =
      lists_by _ _ _ _ (top_some true t next) (top_some false t next)
      (step_once (Within t.number [] ∷ []) (some p true next) (some p false next) ((λ is. is), tt)
      (λ k a b. one_in k a (part_in p true next k b)) (λ k a b. one_in k a (part_in p false next k b)) (parts_once next h.1) (p.top t.number))
    where
      one_in : (k : EntryName) → In k (Within t.number [] ∷ []) → In k (row_keys next) → ⊥
      one_in k (inl e) b = h.0 (subst (λ (w : EntryName). In w (row_keys next)) (sym e) b)
      one_in k (inr r) b = r
  parts_once (ASpace e inner next) h =
      lists_by _ _ _ _ (space_some true e inner next) (space_some false e inner next)
      (step_once (e.at ∷ first_keys p inner) (some p true next) (some p false next)
      ((λ is. h.0 (in_left e.at (row_keys inner) (row_keys next) (first_in p inner e.at is))), first_once inner (parts_once inner (none_left (row_keys inner) (row_keys next) h.1)))
      (λ k a b. some_in k a (part_in p true next k b)) (λ k a b. some_in k a (part_in p false next k b))
      (parts_once next (none_right (row_keys inner) (row_keys next) h.1)) (p.space e.at || row_pinned p inner))
    where
      some_in : (k : EntryName) → In k (e.at ∷ first_keys p inner) → In k (row_keys next) → ⊥
      some_in k (inl x) b = h.0 (in_right e.at (row_keys inner) (row_keys next) (subst (λ (w : EntryName). In w (row_keys next)) (sym x) b))
      some_in k (inr r) b = none_both (row_keys inner) (row_keys next) h.1 k (first_in p inner k r) b

  pub pinned_none : (items : Row) → NoneTwice (row_keys items) → NoneTwice (first_keys p items)
  pinned_none items h = first_once items (parts_once items h)
