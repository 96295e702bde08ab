-- A top of the common file, as looks go over it, and as looks across files have it.
use Rattle.std.proofs.Common.{◌≡◌, ◌⊎◌, ℕ, zero, suc, ◌+◌, ◌<◌, ◌≤◌, ◌||◌, Bool, true, false, List, [], ◌∷◌, length, map, Some, slice_get, refl, sym, ap, subst, ◌∙◌, inl, inr, ⊎_elim, arith}
use Rattle.std.specs.List.{list_any}
use Rattle.std.proofs.lemmas.Bool.{cases_lt, false≢true, ne_eqb}
use Rattle.dwz_model.proofs.ListFacts.{got_map, in_cases}
use Rattle.dwz_def_reading.specs.Documents.{Attr, Doc, Entries, Node, attr_map, entries_map, node_map}
use Rattle.dwz_def_reading.specs.Lists.{In}
use Rattle.dwz_def_reading.specs.Trees.{End, Entry}
use Rattle.dwz_def_tops.specs.Alike.{any_attr, any_entry, is_in, refers_to}
use Rattle.dwz_def_tops.specs.Spots.{EntryName, Top, Within, spot_in, tops_of}
use Rattle.dwz_def_tops.proofs.TopNumbers.{at_number, from_numbered}
use Rattle.dwz_def_cross.specs.Tops.{CrossTop}
use Rattle.dwz_def_check.specs.CrossLabels.{cross_top_map}
use Rattle.dwz_def_check.specs.CrossNames.{cross_tops}
use Rattle.dwz_def_taken.specs.Beside.{Reused, look_units, own_tops, reused_of}
use Rattle.dwz_def_taken.specs.Laws.{ArePlacedOver, IsReused}
use Rattle.dwz_def_taken.proofs.CommonUnits.{IsOwnName, spot_own, spots_own}
use Rattle.dwz_def_taken.proofs.LookTops.{look_from, own_number, own_unit, part_number, part_together}
use Rattle.dwz_def_taken.proofs.NamesOver.{common_spots, named_over}
use Rattle.dwz_def_taken.proofs.PlaceLemmas.{whole}
use Rattle.dwz_match.specs.Partial.{ArePartial}
use Rattle.dwz_match.proofs.BareTops.{cross_of, units_cross}
use Rattle.dwz_match.proofs.CommonTops.{all_tops, common_tops, spot_of, whole_units}

map_from : {X Y : Type 0} (f : X → Y) (xs : List X) (k : ℕ) (y : Y) → slice_get (map f xs) k ≡ Some y → (x : X) × (slice_get xs k ≡ Some x) × (f x ≡ y)
map_from f [] k y e = absurd cc
map_from f (x ∷ xs) zero y e = (x, refl, cc)
map_from f (x ∷ xs) (suc k) y e = map_from f xs k y e

-- ---- what it refers into is of the common file too

module _ (low n : ℕ) (below : n < low) (k : ℕ → EntryName) (own : (x : ℕ) → IsOwnName low (k x)) where
  none_or : (a b : Bool) → a ≡ false → b ≡ false → (a || b) ≡ false
  none_or a b p q = rw (p, q) refl

  spot_not : (s : EntryName) → IsOwnName low s → is_in n s ≡ false
  spot_not (Within t path) h = ne_eqb t n (λ e. omega (arith, e, h, below))
  spot_not _ h = refl

  refs_not : (refs : List ℕ) → list_any (is_in n) (map k refs) ≡ false
  refs_not [] = refl
  refs_not (x ∷ refs) = none_or (is_in n (k x)) (list_any (is_in n) (map k refs)) (spot_not (k x) (own x)) (refs_not refs)

  abbrev into : Attr EntryName → Bool
  into = λ a. list_any (is_in n) a.value.refs

  attrs_not : (attrs : List (Attr ℕ)) → list_any into (map (attr_map k) attrs) ≡ false
  attrs_not [] = refl
  attrs_not (a ∷ attrs) = none_or (into (attr_map k a)) (list_any into (map (attr_map k) attrs)) (refs_not a.value.refs) (attrs_not attrs)

  entries_not : (f : Entries ℕ) → any_entry (any_attr into) (entries_map k f) ≡ false
  unfolding any_entry entries_map
  entries_not End = refl
  entries_not (Entry e f g) =
      none_or (any_attr into (node_map k e)) _ (attrs_not e.attrs)
      (none_or (any_entry (any_attr into) (entries_map k f)) (any_entry (any_attr into) (entries_map k g)) (entries_not f) (entries_not g))

  cross_not : (x : CrossTop ℕ) → (any_attr into (node_map k x.node) || any_entry (any_attr into) (entries_map k x.below)) ≡ false
  cross_not x = none_or (any_attr into (node_map k x.node)) (any_entry (any_attr into) (entries_map k x.below)) (attrs_not x.node.attrs) (entries_not x.below)

module _ (docs : List (Doc ℕ)) (common : Doc ℕ) (placed : ArePlacedOver docs common) (partial : ArePartial common.units) where
  abbrev r : Reused
  r = reused_of docs common

  re : IsReused r
  re = named_over docs common placed

  pub record CommonTop (t : Top) : Type 0 where
    pub k : ℕ
    pub cross : CrossTop ℕ
    pub got : slice_get (cross_tops common.units) k ≡ Some cross
    pub number : own_tops r + k ≡ t.number
    pub same : cross_top_map (spot_of docs common) cross ≡ cross_of t
    pub unit : t.unit ≡ length r.units

  like_same : (t u : Top) → u.spaces ≡ t.spaces → u.node ≡ t.node → u.below ≡ t.below → cross_of u ≡ cross_of t
  like_same t u a b d = (λ i. record { names = map (λ w. w.text) (a i); node = b i; below = d i })

  by_tops : (t u : Top) → In u (common_tops docs common) → u.number ≡ t.number → cross_of u ≡ cross_of t → t.unit ≡ length r.units → CommonTop t
  by_tops t u i number same unit =
      let tops = common_tops docs common in
      let at = at_number (own_tops r) tops (from_numbered (length r.units) (own_tops r) (whole_units (length docs) (spot_of docs common) common.units)) u i in
      let got : slice_get (map (cross_top_map (spot_of docs common)) (cross_tops common.units)) at.0 ≡ Some (cross_of u) =
      ap (λ (w : List (CrossTop EntryName)). slice_get w at.0) (sym (units_cross (spot_of docs common) (length docs) (length r.units) (own_tops r) common.units partial)) ∙ got_map cross_of tops at.0 u at.1 in
      let x = map_from (cross_top_map (spot_of docs common)) (cross_tops common.units) at.0 (cross_of u) got in
      record { k = at.0; cross = x.0; got = x.1; number = sym at.2 ∙ number; same = x.2 ∙ same; unit = unit }

  pub common_top : (t : Top) → In t (tops_of (look_units r)) → own_tops r ≤ t.number → CommonTop t
  common_top t i low = elim (look_from r (whole r re) t i) [
    | inl a ↦ (let h = own_number r (whole r re) a.like.top a.like.there in let e = a.like.like.number in absurd (omega (arith, low, h, e)))
    | inr b ↦
        let u = b.0.top in
        let like = b.0.like in
        let all = in_cases u (tops_of r.units) (common_tops docs common) (subst (In u) (all_tops docs common) (part_together r (whole r re) u b.0.there)) in
        ⊎_elim
        (λ (own : In u (tops_of r.units)). let less = own_number r (whole r re) u own in let high = part_number r (whole r re) u b.0.there in absurd (omega (arith, less, high)))
        (λ (part : In u (common_tops docs common)). by_tops t u part like.number (like_same t u like.spaces like.node like.below) b.1)
        all
  ]

  -- just those of the common file have numbers from there on
  pub unit_numbers : (t : Top) → In t (tops_of (look_units r)) → ((t.number < own_tops r) × (t.unit < length r.units)) ⊎ ((own_tops r ≤ t.number) × (t.unit ≡ length r.units))
  unit_numbers t i = elim (look_from r (whole r re) t i) [
    | inl a ↦
        let u = a.like.top in
        let low = own_number r (whole r re) u a.like.there in
        let unit = own_unit r (whole r re) u a.like.there in
        let number = a.like.like.number in
        let same = a.unit_is in
        inl (omega (arith, low, number), omega (arith, unit, same))
    | inr b ↦
        let u = b.0.top in
        let high = part_number r (whole r re) u b.0.there in
        let number = b.0.like.number in
        inr (omega (arith, high, number), b.1)
  ]

  pub refers_on : (t : Top) → In t (tops_of (look_units r)) → own_tops r ≤ t.number → (m : ℕ) → refers_to m t ≡ true → own_tops r ≤ m
  refers_on t i low m refers =
      let o = common_top t i low in
      let spots = common_spots docs common in
      let le : own_tops r ≤ own_tops r = omega arith in
      let own : (x : ℕ) → IsOwnName (own_tops r) (spot_in spots x) = λ x. spot_own (own_tops r) spots x (spots_own (own_tops r) (length r.units) (own_tops r) common.units le) in
      ⊎_elim
      (λ (less : m < own_tops r).
      let none = cross_not (own_tops r) m less (spot_in spots) own o.cross in
      let into : Node EntryName → Bool = any_attr (λ a. list_any (is_in m) a.value.refs) in
      let same : (into (node_map (spot_in spots) o.cross.node) || any_entry into (entries_map (spot_in spots) o.cross.below)) ≡ (into t.node || any_entry into t.below) =
      ap (λ (x : CrossTop EntryName). into x.node || any_entry into x.below) o.same in
      absurd (false≢true (sym none ∙ same ∙ refers)))
      (λ (le : own_tops r ≤ m). le)
      (cases_lt m (own_tops r))
