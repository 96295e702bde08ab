-- The partial units that attributes name, in the order in which these are read and in that of their numbers.
use Rattle.std.proofs.Common.{◌≡◌, ◌≢◌, ◌↔◌, ◌⊎◌, ℕ, ◌+◌, ◌<◌, ◌≤◌, ◌==◌, ◌&&◌, ◌||◌, Bool, true, false, List, [], ◌∷◌, ◌++◌, length, take, Option, Some, None, slice_get, refl, sym}
use Rattle.std.proofs.Common.{ap, subst, ◌∙◌, inl, inr, ⊎_elim, arith, eq-eqb, if◌then◌else◌}
use Rattle.std.specs.List.{flat_map}
use Rattle.std.proofs.lemmas.Bool.{and_parts, false≢true, or_cases}
use Rattle.std.proofs.lemmas.List.{take_all}
use Rattle.dwz_codes.specs.Rows.{has}
use Rattle.dwz_model.specs.Lists.{In}
use Rattle.dwz_model.proofs.ListFacts.{got_below, in_cases, in_left, in_right}
use Rattle.dwz_def_reading.specs.Classes.{Class, OfCommonEntry, OfInfoEntry, OfUnitEntry, class_of}
use Rattle.dwz_def_reading.specs.Entries.{RawAttr}
use Rattle.dwz_def_reading.specs.Meanings.{offset_of}
use Rattle.dwz_def_reading.specs.Units.{RawUnit}
use Rattle.dwz_unit.proofs.RowsFound.{take_here}
use Rattle.dwz_imports.specs.Stored.{IsPartNumber, IsPartOf, NamesPart, common_named, common_place, is_part_at, is_partial_kind, named_parts, numbers_where, own_named, own_place}
use Rattle.dwz_imports.proofs.Grouped.{has_append, not_equal}
use Rattle.dwz_imports.proofs.Numbers.{RiseFrom, in_where, rise_append, where_below, where_from, where_rises}

or_left : (b c : Bool) → b ≡ true → (b || c) ≡ true
or_left true c e = refl
or_left false c e = absurd cc

or_right : (b c : Bool) → c ≡ true → (b || c) ≡ true
or_right true c e = refl
or_right false c e = e

-- ---- places of two lists

module _ (raw : List RawUnit) (n : ℕ) where
  number_none : IsPartNumber raw [] n → ⊥
  unfolding has
  number_none h = false≢true (and_parts (is_partial_kind h.0.kind) false h.2).1

  number_left : (xs ys : List ℕ) → IsPartNumber raw xs n → IsPartNumber raw (xs ++ ys) n
  number_left xs ys h =
      let p = and_parts (is_partial_kind h.0.kind) (has h.0.root.at xs) h.2 in
      (h.0, h.1, (λ i. p.0 i && (has_append h.0.root.at xs ys ∙ or_left (has h.0.root.at xs) (has h.0.root.at ys) p.1) i))

  number_right : (xs ys : List ℕ) → IsPartNumber raw ys n → IsPartNumber raw (xs ++ ys) n
  number_right xs ys h =
      let p = and_parts (is_partial_kind h.0.kind) (has h.0.root.at ys) h.2 in
      (h.0, h.1, (λ i. p.0 i && (has_append h.0.root.at xs ys ∙ or_right (has h.0.root.at xs) (has h.0.root.at ys) p.1) i))

  number_cases : (xs ys : List ℕ) → IsPartNumber raw (xs ++ ys) n → IsPartNumber raw xs n ⊎ IsPartNumber raw ys n
  number_cases xs ys h =
      let p = and_parts (is_partial_kind h.0.kind) (has h.0.root.at (xs ++ ys)) h.2 in
      ⊎_elim (λ a. inl (h.0, h.1, (λ i. p.0 i && a i))) (λ b. inr (h.0, h.1, (λ i. p.0 i && b i)))
      (or_cases (has h.0.root.at xs) (has h.0.root.at ys) (sym (has_append h.0.root.at xs ys) ∙ p.1))

module _ (own common : List RawUnit) (n : ℕ) where
  abbrev Of : List ℕ → List ℕ → Type 0
  Of xs ys = IsPartOf own common xs ys n

  pub of_none : Of [] [] → ⊥
  of_none (inl a) = number_none own n a
  of_none (inr (k, e, b)) = number_none common k b

  of_left : (xs ys xs' ys' : List ℕ) → Of xs ys → Of (xs ++ xs') (ys ++ ys')
  of_left xs ys xs' ys' (inl a) = inl (number_left own n xs xs' a)
  of_left xs ys xs' ys' (inr (k, e, b)) = inr (k, e, number_left common k ys ys' b)

  of_right : (xs ys xs' ys' : List ℕ) → Of xs' ys' → Of (xs ++ xs') (ys ++ ys')
  of_right xs ys xs' ys' (inl a) = inl (number_right own n xs xs' a)
  of_right xs ys xs' ys' (inr (k, e, b)) = inr (k, e, number_right common k ys ys' b)

  of_cases : (xs ys xs' ys' : List ℕ) → Of (xs ++ xs') (ys ++ ys') → Of xs ys ⊎ Of xs' ys'
  of_cases xs ys xs' ys' (inl a) = ⊎_elim (λ x. inl (inl x)) (λ y. inr (inl y)) (number_cases own n xs xs' a)
  of_cases xs ys xs' ys' (inr (k, e, b)) = ⊎_elim (λ x. inl (inr (k, e, x))) (λ y. inr (inr (k, e, y))) (number_cases common k ys ys' b)

  -- ---- attributes one after the other

  module _ (at : ℕ) where
    abbrev Names : List RawAttr → Type 0
    Names attrs = NamesPart own common at attrs n

    abbrev One : RawAttr → Type 0
    One a = Of (own_named at a) (common_named a)

    names_to : (attrs : List RawAttr) → Names attrs → Of (flat_map (own_named at) attrs) (flat_map common_named attrs)
    names_to [] h = absurd h
    names_to (a ∷ attrs) (inl x) = of_left (own_named at a) (common_named a) (flat_map (own_named at) attrs) (flat_map common_named attrs) x
    names_to (a ∷ attrs) (inr y) = of_right (own_named at a) (common_named a) (flat_map (own_named at) attrs) (flat_map common_named attrs) (names_to attrs y)

    names_from : (attrs : List RawAttr) → Of (flat_map (own_named at) attrs) (flat_map common_named attrs) → Names attrs
    names_from [] h = absurd (of_none h)
    names_from (a ∷ attrs) h =
        by (of_cases (own_named at a) (common_named a) (flat_map (own_named at) attrs) (flat_map common_named attrs) h) (names_from attrs)
      where
        by : One a ⊎ Of (flat_map (own_named at) attrs) (flat_map common_named attrs) → (Of (flat_map (own_named at) attrs) (flat_map common_named attrs) → Names attrs) → Names (a ∷ attrs)
        by (inl x) more = inl x
        by (inr y) more = inr (more y)

    in_parts : (attrs : List RawAttr) → In n (named_parts own common at attrs) ↔ Names attrs
    in_parts attrs =
        let p : RawUnit → Bool = is_part_at (flat_map (own_named at) attrs) in
        let q : RawUnit → Bool = is_part_at (flat_map common_named attrs) in (
          λ h. names_from attrs (⊎_elim
              (λ a. (let o = where_from p 0 own n a in inl (o.1, ap (slice_get own) (let z : n ≡ o.0 = omega (arith, o.2) in z) ∙ o.3, o.4)))
              (λ b. (let o = where_from q (length own) common n b in inr (o.0, o.2, (o.1, o.3, o.4))))
              (in_cases n (numbers_where p 0 own) (numbers_where q (length own) common) h)),
          λ h. ⊎_elim
              (λ a. in_left n (numbers_where p 0 own) (numbers_where q (length own) common) (in_where p 0 own n (n, a.0, omega arith, a.1, a.2)))
              (λ b. in_right n (numbers_where p 0 own) (numbers_where q (length own) common) (in_where q (length own) common n (b.0, b.2.0, b.1, b.2.1, b.2.2)))
              (names_to attrs h),
        )

    -- one attribute more
    names_last : (attrs : List RawAttr) (a : RawAttr) → One a → Names (attrs ++ a ∷ [])
    names_last [] a h = inl h
    names_last (b ∷ attrs) a h = inr (names_last attrs a h)

    names_more : (attrs : List RawAttr) (a : RawAttr) → Names attrs → Names (attrs ++ a ∷ [])
    names_more [] a h = absurd h
    names_more (b ∷ attrs) a (inl x) = inl x
    names_more (b ∷ attrs) a (inr y) = inr (names_more attrs a y)

    names_split : (attrs : List RawAttr) (a : RawAttr) → Names (attrs ++ a ∷ []) → Names attrs ⊎ One a
    names_split [] a (inl x) = inr x
    names_split [] a (inr y) = absurd y
    names_split (b ∷ attrs) a (inl x) = inl (inl x)
    names_split (b ∷ attrs) a (inr y) = ⊎_elim (λ p. inl (inr p)) (λ q. inr q) (names_split attrs a y)

    abbrev pub Added : List ℕ → List ℕ → List RawAttr → Type 0
    Added old now attrs = In n now ↔ (In n old ⊎ Names attrs)

    pub added_none : (old : List ℕ) → Added old old []
    added_none old = (λ h. inl h, λ h. ⊎_elim (λ a. a) (λ b. absurd b) h)

    -- what is named by an attribute was put, if it is DW_AT_import
    pub added_more : (attrs : List RawAttr) (i : ℕ) (a : RawAttr) (old now new : List ℕ) → slice_get attrs i ≡ Some a → In n new ↔ (In n now ⊎ One a) → Added old now (take i attrs) → Added old new
        (take (i + 1) attrs)
    added_more attrs i a old now new is put h = subst (λ (as' : List RawAttr). Added old new as') (sym (take_here attrs i a is)) (
      λ x. ⊎_elim
          (λ y. ⊎_elim (λ p. inl p) (λ q. inr (names_more (take i attrs) a q)) (h.0 y))
          (λ z. inr (names_last (take i attrs) a z)) (put.0 x),
      λ x. put.1 (⊎_elim (λ p. inl (h.1 (inl p))) (λ q. ⊎_elim (λ r. inl (h.1 (inr r))) (λ s. inr s) (names_split (take i attrs) a q)) x),
    )

    pub added_all : (attrs : List RawAttr) (i : ℕ) (old now : List ℕ) → length attrs ≤ i → Added old now (take i attrs) → Added old now attrs
    added_all attrs i old now le h = subst (λ (as' : List RawAttr). Added old now as') (take_all i attrs le) h

    if_yes : (b : Bool) (xs : List ℕ) → b ≡ true → (if b then xs else []) ≡ xs
    if_yes true xs e = refl
    if_yes false xs e = absurd cc

    if_no : (b : Bool) (xs : List ℕ) → b ≡ false → (if b then xs else []) ≡ []
    if_no true xs e = absurd cc
    if_no false xs e = refl

    pub one_import : (a : RawAttr) (part : Option ℕ) (now new : List ℕ) → a.pair.name ≡ 0x18
        → (part ≡ Some n) ↔ Of (own_place (class_of a.pair.form) at (offset_of a)) (common_place (class_of a.pair.form) (offset_of a)) → In n new ↔ (In n now ⊎ (part ≡ Some n)) → In n new ↔
        (In n now ⊎ One a)
    one_import a part now new name is put =
        let t = eq-eqb a.pair.name 0x18 name in
        let xs = if_yes (a.pair.name == 0x18) (own_place (class_of a.pair.form) at (offset_of a)) t in
        let ys = if_yes (a.pair.name == 0x18) (common_place (class_of a.pair.form) (offset_of a)) t in
        subst (λ (x : List ℕ). In n new ↔ (In n now ⊎ Of x (common_named a))) (sym xs) (subst (λ (y : List ℕ). In n new ↔ (In n now ⊎ Of (own_place (class_of a.pair.form) at (offset_of a)) y))
        (sym ys) (
          λ h. ⊎_elim (λ p. inl p) (λ q. inr (is.0 q)) (put.0 h),
          λ h. put.1 (⊎_elim (λ p. inl p) (λ q. inr (is.1 q)) h),
        ))

    pub one_other : (a : RawAttr) (now new : List ℕ) → a.pair.name ≢ 0x18 → new ≡ now → In n new ↔ (In n now ⊎ One a)
    one_other a now new name same =
        let f = not_equal a.pair.name 0x18 name in
        let xs = if_no (a.pair.name == 0x18) (own_place (class_of a.pair.form) at (offset_of a)) f in
        let ys = if_no (a.pair.name == 0x18) (common_place (class_of a.pair.form) (offset_of a)) f in (
          λ h. inl (subst (λ (w : List ℕ). In n w) same h),
          λ h. ⊎_elim (λ p. subst (λ (w : List ℕ). In n w) (sym same) p)
              (λ q. absurd (of_none (subst (λ (y : List ℕ). Of [] y) ys (subst (λ (x : List ℕ). Of x (common_named a)) xs q)))) h,
        )

pub parts_rise : (own common : List RawUnit) (at : ℕ) (attrs : List RawAttr) → RiseFrom 0 (named_parts own common at attrs)
parts_rise own common at attrs =
    rise_append 0 (numbers_where (is_part_at (flat_map (own_named at) attrs)) 0 own) (length own) (numbers_where (is_part_at (flat_map common_named attrs)) (length own) common)
    (where_rises (is_part_at (flat_map (own_named at) attrs)) 0 own) (omega arith)
    (λ n h. (let l = where_below (is_part_at (flat_map (own_named at) attrs)) 0 own n h in omega (arith, l)))
    (where_rises (is_part_at (flat_map common_named attrs)) (length own) common)

-- of no old numbers
pub all_added : (own common : List RawUnit) (at : ℕ) (attrs : List RawAttr) (old now : List ℕ) → old ≡ [] → ((n : ℕ) → In n now ↔ (In n old ⊎ NamesPart own common at attrs n)) → (n : ℕ)
    → In n now ↔ In n (named_parts own common at attrs)
all_added own common at attrs old now none h n = (
  λ x. ⊎_elim (λ a. absurd (subst (λ (w : List ℕ). In n w) none a)) (λ b. (in_parts own common n at attrs).1 b) ((h n).0 x),
  λ x. (h n).1 (inr ((in_parts own common n at attrs).0 x)),
)

-- ---- one value

put_split : (n : ℕ) (old new : List ℕ) (x : ℕ) → new ≡ old ++ x ∷ [] → In n new ↔ (In n old ⊎ (Some x ≡ Some n))
put_split n old new x put = (
  λ h. ⊎_elim (λ a. inl a) (λ b. inr (⊎_elim (λ e. ap (λ (k : ℕ). Some k) e) (λ z. absurd z) b)) (in_cases n old (x ∷ []) (subst (λ (w : List ℕ). In n w) put h)),
  λ h. subst (λ (w : List ℕ). In n w) (sym put) (⊎_elim (λ a. in_left n old (x ∷ []) a) (λ e. in_right n old (x ∷ []) (inl (let same : x ≡ n = cc in same))) h),
)

pub put_some : (old new : List ℕ) (x : ℕ) (part : Option ℕ) → part ≡ Some x → new ≡ old ++ x ∷ [] → (n : ℕ) → In n new ↔ (In n old ⊎ (part ≡ Some n))
put_some old new x part is put n = subst (λ (o : Option ℕ). In n new ↔ (In n old ⊎ (o ≡ Some n))) (sym is) (put_split n old new x put)

module _ (own common : List RawUnit) (place : ℕ) where
  pub own_part : (r : Option ℕ) → ((n : ℕ) → (r ≡ Some n) ↔ IsPartNumber own (place ∷ []) n) → (n : ℕ) → (r ≡ Some n) ↔ IsPartOf own common (place ∷ []) [] n
  own_part r is n = (
    λ e. inl ((is n).0 e),
    λ h. ⊎_elim (λ a. (is n).1 a) (λ b. absurd (number_none common b.0 b.2)) h,
  )

  pub common_none : ((k : ℕ) → (None ≡ Some k) ↔ IsPartNumber common (place ∷ []) k) → (n : ℕ) → (None ≡ Some n) ↔ IsPartOf own common [] (place ∷ []) n
  common_none is n = (
    λ e. absurd cc,
    λ h. ⊎_elim (λ a. absurd (number_none own n a)) (λ b. absurd (let never = (is b.0).1 b.2 in cc)) h,
  )

  pub common_some : (m k : ℕ) → k ≡ length own + m → ((j : ℕ) → (Some m ≡ Some j) ↔ IsPartNumber common (place ∷ []) j) → (n : ℕ) → (Some k ≡ Some n) ↔ IsPartOf own common [] (place ∷ []) n
  common_some m k at is n = (
    λ e. inr (m, (let same : k ≡ n = cc in sym same ∙ at), (is m).0 refl),
    λ h. ⊎_elim (λ a. absurd (number_none own n a)) (λ b. (let found : Some m ≡ Some b.0 = (is b.0).1 b.2 in let same : m ≡ b.0 = cc in ap (λ (j : ℕ). Some j) (at ∙ ap (λ
        (j : ℕ). length own + j) same ∙ sym b.1))) h,
  )

-- without a common file
pub no_common : (own : List RawUnit) (place n : ℕ) → (None ≡ Some n) ↔ IsPartOf own [] [] (place ∷ []) n
no_common own place n = (
  λ e. absurd cc,
  λ h. ⊎_elim (λ a. absurd (number_none own n a)) (λ b. absurd (let got = b.2.1 in cc)) h,
)

-- a value of another class is no entry
pub other_class : (c : Class) (at offset : ℕ) → (c ≡ OfUnitEntry → ⊥) → (c ≡ OfInfoEntry → ⊥) → (c ≡ OfCommonEntry → ⊥) → (own common : List RawUnit) (n : ℕ)
    → (None ≡ Some n) ↔ IsPartOf own common (own_place c at offset) (common_place c offset) n
other_class c at offset a b d own common n =
    let e = nothing c a b d in
    subst (λ (xs : List ℕ). (None ≡ Some n) ↔ IsPartOf own common xs (common_place c offset) n) (sym e.0)
    (subst (λ (ys : List ℕ). (None ≡ Some n) ↔ IsPartOf own common [] ys n) (sym e.1) (λ x. absurd cc, λ h. absurd (of_none own common n h)))
  where
    nothing : (c : Class) → (c ≡ OfUnitEntry → ⊥) → (c ≡ OfInfoEntry → ⊥) → (c ≡ OfCommonEntry → ⊥) → (own_place c at offset ≡ []) × (common_place c offset ≡ [])
    nothing OfUnitEntry a b d = absurd (a refl)
    nothing OfInfoEntry a b d = absurd (b refl)
    nothing OfCommonEntry a b d = absurd (d refl)
    nothing _ a b d = (refl, refl)

-- a part is one of the units
pub part_below : (raw : List RawUnit) (places : List ℕ) (n : ℕ) → IsPartNumber raw places n → n < length raw
part_below raw places n h = got_below raw n h.0 h.1
