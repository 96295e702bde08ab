-- The sources of a unit: no place stands twice among them.
use Rattle.std.proofs.Common.{◌≡◌, ◌≢◌, Bool, true, false, List, [], ◌∷◌, ◌++◌, ◌&&◌, refl, sym, ap, subst, ◌∙◌, inl, inr}
use Rattle.std.specs.Prelude.{not}
use Rattle.std.specs.List.{filter}
use Rattle.std.proofs.lemmas.Bool.{and_parts}
use Rattle.dwz_def_reading.specs.Documents.{Compile, DwUnit, Entries, Kind, Node, OfType, Partial}
use Rattle.dwz_def_reading.specs.Lists.{Each, In, EachPair, NoneTwice}
use Rattle.dwz_def_reading.specs.Trees.{End, Entry}
use Rattle.dwz_def_reading.proofs.ListFacts.{in_cases, in_left, in_right}
use Rattle.dwz_def_reading.proofs.Members.{each_append, each_filter, each_in, each_of, in_filter_from, pair_filter}
use Rattle.dwz_def_reading.proofs.OnceLemmas.{none_append, none_both, none_left, none_right}
use Rattle.dwz_def_tops.specs.Shown.{keys, unit_keys, units_keys}
use Rattle.dwz_def_tops.proofs.ShownLemmas.{unit_key}
use Rattle.dwz_def_encoding.specs.Meant.{entry_keys}
use Rattle.dwz_def_cross.specs.Tops.{unless_partial, whole_units}
use Rattle.dwz_def_expand.specs.ExpandLaws.{IsTest}
use Rattle.dwz_def_expand.specs.Source.{followed_by, imported_in, inside, is_import, is_partial, without_imports, once, imported_by, source_unit, sources_below, unless_import}

-- ---- units of a list in which no place stands twice

pub unit_none : {P : Type 0} (units : List (DwUnit P)) → NoneTwice (units_keys units) → (u : DwUnit P) → In u units → NoneTwice (unit_keys u)
unfolding units_keys
unit_none [] h u is = absurd is
unit_none {P} (x ∷ units) h u (inl e) = subst (λ (w : DwUnit P). NoneTwice (unit_keys w)) e (none_left (unit_keys x) (units_keys units) h)
unit_none (x ∷ units) h u (inr r) = unit_none units (none_right (unit_keys x) (units_keys units) h) u r

pub unit_one : {P : Type 0} (units : List (DwUnit P)) → NoneTwice (units_keys units) → (u v : DwUnit P) → In u units → In v units → (k : P) → In k (unit_keys u) → In k (unit_keys v) → u ≡ v
unfolding units_keys
unit_one [] h u v i j k a b = absurd i
unit_one (x ∷ units) h u v (inl e) (inl f) k a b = sym e ∙ f
unit_one {P} (x ∷ units) h u v (inl e) (inr s) k a b =
    absurd (none_both (unit_keys x) (units_keys units) h k (subst (λ (w : DwUnit P). In k (unit_keys w)) (sym e) a) (unit_key units v k s b))
unit_one {P} (x ∷ units) h u v (inr r) (inl f) k a b =
    absurd (none_both (unit_keys x) (units_keys units) h k (subst (λ (w : DwUnit P). In k (unit_keys w)) (sym f) b) (unit_key units u k r a))
unit_one (x ∷ units) h u v (inr r) (inr s) k a b = unit_one units (none_right (unit_keys x) (units_keys units) h) u v r s k a b

pub below_key : {P : Type 0} (u : DwUnit P) (k : P) → In k (keys u.below) → In k (unit_keys u)
unfolding unit_keys
below_key u k h = inr (inr h)

pub in_whole : {P : Type 0} (units : List (DwUnit P)) (u : DwUnit P) → In u (whole_units units) → In u units × (is_partial u.kind ≡ false)
unfolding whole_units
in_whole [] u h = absurd h
in_whole {P} (x ∷ units) u h = by x.kind refl h (in_whole units u) where
  here : (k : Kind P) → x.kind ≡ k → is_partial k ≡ false → x ≡ u → In u (x ∷ units) × (is_partial u.kind ≡ false)
  here k e whole same = (inl same, ap (λ (w : DwUnit P). is_partial w.kind) (sym same) ∙ ap is_partial e ∙ whole)

  later : In u units × (is_partial u.kind ≡ false) → In u (x ∷ units) × (is_partial u.kind ≡ false)
  later o = (inr o.0, o.1)

  by : (k : Kind P) → x.kind ≡ k → In u (unless_partial k x (whole_units units)) → (In u (whole_units units) → In u units × (is_partial u.kind ≡ false)) → In u (x ∷ units) × (is_partial u.kind ≡ false)
  by Compile e (inl same) more = here Compile e refl same
  by Compile e (inr r) more = later (more r)
  by (OfType s t) e (inl same) more = here (OfType s t) e refl same
  by (OfType s t) e (inr r) more = later (more r)
  by Partial e r more = later (more r)

-- the places of entries, and of others behind them
pub followed_keys : {P : Type 0} (f last : Entries P) → keys (followed_by f last) ≡ keys f ++ keys last
unfolding followed_by keys
followed_keys End last = refl
followed_keys {P} (Entry e c n) last = ap (λ (w : List P). e.at ∷ w) (ap (λ (w : List P). keys c ++ w) (followed_keys n last) ∙ sym (assoc (keys c) (keys n) (keys last))) where
  assoc : (xs ys zs : List P) → (xs ++ ys) ++ zs ≡ xs ++ (ys ++ zs)
  assoc [] ys zs = refl
  assoc (x ∷ xs) ys zs = ap (λ (w : List P). x ∷ w) (assoc xs ys zs)

module _ {P : Type 0} (same : P → P → Bool) (test : IsTest same) (units : List (DwUnit P)) (apart : NoneTwice (units_keys units)) where
  -- ---- partial units that are imported

  abbrev pub Good : DwUnit P → Type 0
  Good v = In v units × (is_partial v.kind ≡ true)

  abbrev Apart : DwUnit P → DwUnit P → Type 0
  Apart v x = v.at ≢ x.at

  abbrev is_part : Node P → DwUnit P → Bool
  is_part e v = is_partial v.kind && is_import same v.root.at e

  pub parts_good : (e : Node P) → Each Good (imported_by same units e)
  unfolding imported_by
  parts_good e = each_of Good (filter (is_part e) units) (λ v is.
      let o = in_filter_from (is_part e) v units is in (o.0, (and_parts (is_partial v.kind) (is_import same v.root.at e) o.1).0))

  pub imports_good : (f : Entries P) → Each Good (imported_in same units f)
  unfolding imported_in
  imports_good End = tt
  imports_good (Entry e c n) = each_append Good (imported_by same units e) (imported_in same units n) (parts_good e) (imports_good n)

  abbrev is_other : DwUnit P → DwUnit P → Bool
  is_other v w = not (same w.at v.at)

  pub once_good : (vs : List (DwUnit P)) → Each Good vs → Each Good (once same vs)
  unfolding once
  once_good [] h = tt
  once_good (v ∷ vs) h = (h.0, each_filter Good (is_other v) (once same vs) (once_good vs h.1))

  other_apart : (v x : DwUnit P) → is_other v x ≡ true → Apart v x
  other_apart v x h e = let yes : same x.at v.at ≡ true = subst (λ (p : P). same x.at p ≡ true) (sym e) (test.no x.at) in
      let is_not : not (same x.at v.at) ≡ false = ap not yes in cc

  once_apart : (vs : List (DwUnit P)) → EachPair Apart (once same vs)
  unfolding once
  once_apart [] = tt
  once_apart (v ∷ vs) = (
    each_of (Apart v) (filter (is_other v) (once same vs)) (λ x is. other_apart v x (in_filter_from (is_other v) x (once same vs) is).1),
    pair_filter Apart (is_other v) (once same vs) (once_apart vs),
  )

  -- ---- what stands in them

  pub record InPart (parts : List (DwUnit P)) (k : P) : Type 0 where
    pub part : DwUnit P
    pub there : In part parts
    pub key : In k (keys part.below)

  in_inside : (parts : List (DwUnit P)) (k : P) → In k (keys (inside parts)) → InPart parts k
  unfolding inside keys
  in_inside [] k h = absurd h
  in_inside (v ∷ parts) k h = elim (in_cases k (keys v.below) (keys (inside parts)) (subst (λ (w : List P). In k w) (followed_keys v.below (inside parts)) h)) [
    | inl a ↦ record { part = v; there = inl refl; key = a }
    | inr b ↦ (let o = in_inside parts k b in record { part = o.part; there = inr o.there; key = o.key })
  ]

  none_below : (u : DwUnit P) → In u units → NoneTwice (keys u.below)
  unfolding unit_keys
  none_below u is = (unit_none units apart u is).1.1

  inside_none : (parts : List (DwUnit P)) → Each Good parts → EachPair Apart parts → NoneTwice (keys (inside parts))
  unfolding inside keys
  inside_none [] h g = tt
  inside_none (v ∷ parts) h g =
      subst NoneTwice (sym (followed_keys v.below (inside parts)))
      (none_append (keys v.below) (keys (inside parts)) (none_below v h.0.0) (inside_none parts h.1 g.1)
      (λ k a b. (let o = in_inside parts k b in
      let good = each_in Good o.part parts h.1 o.there in
      let is = unit_one units apart v o.part h.0.0 good.0 k (below_key v k a) (below_key o.part k o.key) in
      each_in (Apart v) o.part parts g.0 o.there (ap (λ (x : DwUnit P). x.at) is))))

  -- ---- what is kept

  kept_in : (f : Entries P) (k : P) → In k (keys (without_imports same units f)) → In k (keys f)
  unfolding without_imports keys
  kept_in End k h = h
  kept_in (Entry e c n) k h = by (imported_by same units e) h (kept_in n k) where
    by : (parts : List (DwUnit P)) → In k (keys (unless_import parts e c (without_imports same units n))) → (In k (keys (without_imports same units n)) → In k (keys n)) → In k (e.at ∷ keys c ++ keys n)
    by [] (inl a) more = inl a
    by [] (inr r) more = elim (in_cases k (keys c) (keys (without_imports same units n)) r) [ inl a ↦ inr (in_left k (keys c) (keys n) a) | inr b ↦ inr (in_right k (keys c) (keys n) (more b)) ]
    by (v ∷ parts) r more = inr (in_right k (keys c) (keys n) (more r))

  kept_none : (f : Entries P) → NoneTwice (keys f) → NoneTwice (keys (without_imports same units f))
  unfolding without_imports keys
  kept_none End h = h
  kept_none (Entry e c n) h = by (imported_by same units e) (kept_none n (none_right (keys c) (keys n) h.1)) where
    by : (parts : List (DwUnit P)) → NoneTwice (keys (without_imports same units n)) → NoneTwice (keys (unless_import parts e c (without_imports same units n)))
    by (v ∷ parts) more = more
    by [] more = (
      (λ is. elim (in_cases e.at (keys c) (keys (without_imports same units n)) is) [
        | inl a ↦ h.0 (in_left e.at (keys c) (keys n) a)
        | inr b ↦ h.0 (in_right e.at (keys c) (keys n) (kept_in n e.at b))
      ]),
      none_append (keys c) (keys (without_imports same units n)) (none_left (keys c) (keys n) h.1) more (λ k a b. none_both (keys c) (keys n) h.1 k a (kept_in n k b)),
    )

  -- ---- the sources of a unit

  pub source_none : (u : DwUnit P) → In u units → is_partial u.kind ≡ false → NoneTwice (unit_keys (source_unit same units u))
  unfolding unit_keys
  source_none u is whole = by u.kind where
    own : NoneTwice (u.at ∷ u.root.at ∷ keys u.below)
    own = unit_none units apart u is

    parts : List (DwUnit P)
    parts = once same (imported_in same units u.below)

    good : Each Good (once same (imported_in same units u.below))
    good = once_good (imported_in same units u.below) (imports_good u.below)

    -- no place of the unit is one of a partial unit
    strange : (k : P) → In k (unit_keys u) → In k (keys (inside (once same (imported_in same units u.below)))) → ⊥
    strange k a b =
        let o = in_inside (once same (imported_in same units u.below)) k b in
        let g = each_in Good o.part (once same (imported_in same units u.below)) good o.there in
        let e = unit_one units apart u o.part is g.0 k a (below_key o.part k o.key) in
        (let z : is_partial u.kind ≡ true = ap (λ (x : DwUnit P). is_partial x.kind) e ∙ g.1 in absurd cc)

    outside : (k : P) → In k (unit_keys u) → (In k (keys u.below) → ⊥) → In k (keys (followed_by (without_imports same units u.below) (inside (once same (imported_in same units u.below))))) → ⊥
    outside k a apart_from h =
        elim (in_cases k (keys (without_imports same units u.below)) (keys (inside (once same (imported_in same units u.below))))
        (subst (λ (w : List P). In k w) (followed_keys (without_imports same units u.below) (inside (once same (imported_in same units u.below)))) h)) [
          | inl x ↦ apart_from (kept_in u.below k x)
          | inr y ↦ strange k a y
        ]

    by : (k : Kind P) → NoneTwice (u.at ∷ u.root.at ∷ keys (sources_below same units k u.below))
    by Compile = (
      (λ h. elim h [ inl x ↦ own.0 (inl x) | inr y ↦ outside u.at (inl refl) (λ z. own.0 (inr z)) y ]),
      (
        (λ h. outside u.root.at (inr (inl refl)) own.1.0 h),
        subst NoneTwice (sym (followed_keys (without_imports same units u.below) (inside (once same (imported_in same units u.below)))))
            (none_append (keys (without_imports same units u.below)) (keys (inside (once same (imported_in same units u.below)))) (kept_none u.below own.1.1)
            (inside_none (once same (imported_in same units u.below)) good (once_apart (imported_in same units u.below)))
            (λ k a b. strange k (below_key u k (kept_in u.below k a)) b)),
      ),
    )
    by (OfType s t) = own
    by Partial = own

  -- a source is an entry of some unit
  pub record EntryIn (k : P) : Type 0 where
    pub unit : DwUnit P
    pub there : In unit units
    pub key : In k (entry_keys unit)

  source_entry : (u : DwUnit P) → In u units → (k : P) → In k (entry_keys (source_unit same units u)) → EntryIn k
  source_entry u is k (inl a) = record { unit = u; there = is; key = inl a }
  source_entry u is k (inr b) = by u.kind b where
    own : In k (keys u.below) → EntryIn k
    own h = record { unit = u; there = is; key = inr h }

    by : (kind : Kind P) → In k (keys (sources_below same units kind u.below)) → EntryIn k
    by Compile h =
        elim (in_cases k (keys (without_imports same units u.below)) (keys (inside (once same (imported_in same units u.below))))
        (subst (λ (w : List P). In k w) (followed_keys (without_imports same units u.below) (inside (once same (imported_in same units u.below)))) h)) [
          | inl x ↦ own (kept_in u.below k x)
          | inr y ↦
              let o = in_inside (once same (imported_in same units u.below)) k y in
              let g = each_in Good o.part (once same (imported_in same units u.below)) (once_good (imported_in same units u.below) (imports_good u.below)) o.there in
              record { unit = o.part; there = g.0; key = inr o.key }
        ]
    by (OfType s t) h = own h
    by Partial h = own h

  -- so none stands where a unit begins
  pub no_unit : (u v : DwUnit P) → In u units → In v units → In u.at (entry_keys (source_unit same units v)) → ⊥
  unfolding unit_keys
  no_unit u v is there h =
      let o = source_entry v there u.at h in
      let e = unit_one units apart u o.unit is o.there u.at (inl refl) (inr o.key) in
      (unit_none units apart u is).0 (subst (λ (w : DwUnit P). In u.at (entry_keys w)) (sym e) o.key)
