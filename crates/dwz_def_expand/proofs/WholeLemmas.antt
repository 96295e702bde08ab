-- The new file is whole: no name stands twice in it, and each reference names an entry of it.
use Rattle.std.proofs.Common.{◌≡◌, ℕ, zero, suc, ◌≤◌, ◌+◌, Bool, true, false, List, [], ◌∷◌, ◌++◌, if◌then◌else◌, Option, Some, None, map, get_or, refl, sym, ap, subst, ◌∙◌, arith, inl, inr}
use Rattle.std.specs.Prelude.{unwrap_or}
use Rattle.dwz_def_reading.specs.Documents.{DwUnit, Entries, Node, Attr, entries_map, unit_map}
use Rattle.dwz_def_reading.specs.Lists.{Each, In, NoneTwice, Nth}
use Rattle.dwz_def_reading.specs.Trees.{End, Entry}
use Rattle.dwz_def_reading.proofs.ListFacts.{in_cases, in_left, in_map, in_right}
use Rattle.dwz_def_reading.proofs.Members.{each_append, each_in, each_split, in_map_from, nth_in}
use Rattle.dwz_def_reading.proofs.OnceLemmas.{none_append, none_map}
use Rattle.dwz_def_tops.specs.Seen.{Closed, Named, Seen, all_seen, named_map, named_value, see, seen, seen_below, seen_map, seen_roots}
use Rattle.dwz_def_tops.specs.Shown.{keys, unit_keys, units_keys}
use Rattle.dwz_def_tops.proofs.MainLemmas.{keys_map}
use Rattle.dwz_def_tops.proofs.SeenLemmas.{entry_seen, root_from, root_seen, see_map, seen_entries, seen_from}
use Rattle.dwz_def_encoding.specs.Meant.{entry_keys}
use Rattle.dwz_def_encoding.specs.Placing.{has_key}
use Rattle.dwz_def_cross.specs.Tops.{WithCommon, units_with_common, whole_units}
use Rattle.dwz_def_expand.specs.Chosen.{Choice}
use Rattle.dwz_def_expand.specs.ExpandLaws.{IsTest}
use Rattle.dwz_def_expand.specs.Refusals.{AllCopied, CanCopy, IsLost, Site, nodes, sites_from, sites_in, sites_of}
use Rattle.dwz_def_expand.specs.Source.{Copy, copies, copy, copy_for, expanded, first_with, is_partial, source_unit, source_units, source_places, unit_for}
use Rattle.dwz_def_expand.proofs.SourceLemmas.{in_whole, no_unit, source_none}

-- ---- where a place stands after

pub has_in : {P : Type 0} (same : P → P → Bool) → IsTest same → (p : P) (ks : List P) → has_key same p ks ≡ true → In p ks
unfolding has_key
has_in same test p [] h = absurd cc
has_in {P} same test p (k ∷ ks) h = by (same k p) refl h (has_in same test p ks) where
  by : (b : Bool) → same k p ≡ b → (elim b as (λ _. Bool) [ true ↦ true | false ↦ has_key same p ks ]) ≡ true → (has_key same p ks ≡ true → In p ks) → In p (k ∷ ks)
  by true e r more = inl (test.yes k p e)
  by false e r more = inr (more r)

pub is_there : {P : Type 0} (same : P → P → Bool) → IsTest same → (p : P) (ks : List P) → In p ks → has_key same p ks ≡ true
unfolding has_key
is_there same test p [] h = absurd h
is_there {P} same test p (k ∷ ks) h = by (same k p) refl h (λ r. is_there same test p ks r) where
  by : (b : Bool) → same k p ≡ b → In p (k ∷ ks) → (In p ks → has_key same p ks ≡ true) → (elim b as (λ _. Bool) [ true ↦ true | false ↦ has_key same p ks ]) ≡ true
  by true e is more = refl
  by false e (inl x) more = let yes : same k p ≡ true = subst (λ (q : P). same k q ≡ true) x (test.no k) in cc
  by false e (inr r) more = more r

-- the m-th of these units has it
pub record SourceIn {P : Type 0} (s : ℕ) (units : List (List P)) (m : ℕ) (p : P) : Type 0 where
  pub list : List P
  pub nth : Nth s units m list
  pub there : In p list

got_source : {P : Type 0} (s n : ℕ) (units : List (List P)) (p : P) → In p (get_or units n []) → SourceIn s units (s + n) p
got_source s n [] p h = absurd h
got_source s zero (ks ∷ units) p h = record { list = ks; nth = inl (omega arith, refl); there = h }
got_source {P} s (suc n) (ks ∷ units) p h =
    let o = got_source (suc s) n units p h in
    let e : suc s + n ≡ s + suc n = omega arith in
    record { list = o.list; nth = inr (subst (λ (m : ℕ). Nth (suc s) units m o.list) e o.nth); there = o.there }

first_at : {P : Type 0} (same : P → P → Bool) → IsTest same → (s : ℕ) (units : List (List P)) (p : P) (m : ℕ) → first_with same s units p ≡ Some m → SourceIn s units m p
unfolding first_with
first_at same test s [] p m h = absurd cc
first_at {P} same test s (ks ∷ units) p m h = by (has_key same p ks) refl h (first_at same test (suc s) units p m) where
  later : SourceIn (suc s) units m p → SourceIn s (ks ∷ units) m p
  later o = record { list = o.list; nth = inr o.nth; there = o.there }

  by : (b : Bool) → has_key same p ks ≡ b → (if b then Some s else first_with same (suc s) units p) ≡ Some m
      → (first_with same (suc s) units p ≡ Some m → SourceIn (suc s) units m p) → SourceIn s (ks ∷ units) m p
  by true e r more = let at : s ≡ m = cc in record { list = ks; nth = inl (at, refl); there = has_in same test p ks e }
  by false e r more = later (more r)

pub unit_at : {P : Type 0} (same : P → P → Bool) → IsTest same → (units : List (List P)) (n : ℕ) (p : P) (m : ℕ) → unit_for same units n p ≡ Some m → SourceIn 0 units m p
unfolding unit_for
unit_at {P} same test units n p m h = by (has_key same p (get_or units n [])) refl h where
  by : (b : Bool) → has_key same p (get_or units n []) ≡ b → (if b then Some n else first_with same 0 units p) ≡ Some m → SourceIn 0 units m p
  by true e r =
      let at : n ≡ m = cc in
      let zero_n : 0 + n ≡ m = (let z : 0 + n ≡ n = omega arith in z ∙ at) in
      subst (λ (k : ℕ). SourceIn 0 units k p) zero_n (got_source 0 n units p (has_in same test p (get_or units n []) e))
  by false e r = first_at same test 0 units p m r

module _ {P : Type 0} (same : P → P → Bool) (test : IsTest same) (us : List (DwUnit P)) where
  abbrev pub places : List (List P)
  places = map entry_keys us

  -- what a unit has itself it names there
  pub own_copy : (n : ℕ) (p : P) → In p (get_or places n []) → copy_for same places n p ≡ copy n p
  unfolding unit_for
  own_copy n p h = rw (is_there same test p (get_or places n []) h) refl

  -- and so its own place, which no entry has
  abbrev pub IsNoEntry : P → Type 0
  IsNoEntry p = (m : ℕ) → SourceIn 0 places m p → ⊥

  pub unit_copy : (n : ℕ) (p : P) → IsNoEntry p → copy_for same places n p ≡ copy n p
  unit_copy n p alone = by (unit_for same places n p) refl where
    by : (o : Option ℕ) → unit_for same places n p ≡ o → copy (unwrap_or o n) p ≡ copy n p
    by None e = refl
    by (Some m) e = absurd (alone m (unit_at same test places n p m e))

  from_nth : (s : ℕ) (some : List (DwUnit P)) (n : ℕ) (u : DwUnit P) → Nth s some n u → s ≤ n
  from_nth s [] n u h = absurd h
  from_nth s (y ∷ some) n u (inl h) = let same = h.0 in omega arith
  from_nth s (y ∷ some) n u (inr h) = let more = from_nth (suc s) some n u h in omega arith

  pub nth_places : (s : ℕ) (some : List (DwUnit P)) (n : ℕ) (u : DwUnit P) (k : ℕ) → Nth s some n u → n ≡ s + k → get_or (map entry_keys some) k [] ≡ entry_keys u
  nth_places s [] n u k h e = absurd h
  nth_places s (x ∷ some) n u zero (inl h) e = ap (λ (w : DwUnit P). entry_keys w) h.1
  nth_places s (x ∷ some) n u (suc k) (inl h) e = absurd (let same = h.0 in omega arith)
  nth_places s (x ∷ some) n u zero (inr h) e = absurd (let high = from_nth (suc s) some n u h in omega arith)
  nth_places s (x ∷ some) n u (suc k) (inr h) e = nth_places (suc s) some n u k h (let one = e in omega arith)

  -- ---- names

  abbrev pub outs : ℕ → List (DwUnit P) → List (DwUnit (Copy P))
  outs n some = copies same places n some

  pub same_map : {X Y : Type 0} (f g : X → Y) (xs : List X) → ((x : X) → In x xs → f x ≡ g x) → map f xs ≡ map g xs
  same_map f g [] h = refl
  same_map {X} {Y} f g (x ∷ xs) h = ap (λ (w : Y). w ∷ map f xs) (h x (inl refl)) ∙ ap (λ (w : List Y). g x ∷ w) (same_map f g xs (λ y is. h y (inr is)))

  pub mapped_keys : {Q : Type 0} (f : P → Q) (u : DwUnit P) → unit_keys (unit_map f u) ≡ map f (unit_keys u)
  unfolding unit_keys
  mapped_keys {Q} f u = ap (λ (w : List Q). f u.at ∷ f u.root.at ∷ w) (keys_map f u.below)

  -- the n-th unit of the file
  pub record IsHere (n : ℕ) (u : DwUnit P) : Type 0 where
    pub entries : get_or places n [] ≡ entry_keys u
    pub alone : IsNoEntry u.at

  pub copy_keys : (n : ℕ) (u : DwUnit P) → IsHere n u → unit_keys (unit_map (copy_for same places n) u) ≡ map (copy n) (unit_keys u)
  unfolding unit_keys
  copy_keys n u here = mapped_keys (copy_for same places n) u ∙ same_map (copy_for same places n) (copy n) (unit_keys u) one where
    one : (p : P) → In p (unit_keys u) → copy_for same places n p ≡ copy n p
    one p (inl e) = unit_copy n p (subst IsNoEntry e here.alone)
    one p (inr r) = own_copy n p (subst (λ (w : List P). In p w) (sym here.entries) r)

  -- units from a number on are those of the file
  abbrev pub AreFrom : ℕ → List (DwUnit P) → Type 0
  AreFrom n some = (m : ℕ) (u : DwUnit P) → Nth n some m u → IsHere m u

  pub all_from : ((u : DwUnit P) → In u us → IsNoEntry u.at) → AreFrom 0 us
  all_from alone m u h = record { entries = nth_places 0 us m u m h (omega arith); alone = alone u (nth_in 0 us m u h) }

  from_above : (n : ℕ) (some : List (DwUnit P)) → AreFrom n some → (k : Copy P) → In k (units_keys (outs n some)) → n ≤ k.unit
  unfolding copies units_keys
  from_above n [] are k h = absurd h
  from_above n (u ∷ some) are k h = elim (in_cases k (unit_keys (unit_map (copy_for same places n) u)) (units_keys (outs (suc n) some)) h) [
    | inl a ↦
        let o = in_map_from (copy n) k (unit_keys u) (subst (λ (w : List (Copy P)). In k w) (copy_keys n u (are n u (inl (refl, refl)))) a) in
        let e : n ≡ k.unit = ap (λ (c : Copy P). c.unit) o.is in omega arith
    | inr b ↦ (let more = from_above (suc n) some (λ m v h. are m v (inr h)) k b in omega arith)
  ]

  copy_one : (n : ℕ) (p q : P) → copy n p ≡ copy n q → p ≡ q
  copy_one n p q e = ap (λ (c : Copy P). c.source) e

  pub copies_none : (n : ℕ) (some : List (DwUnit P)) → AreFrom n some → Each (λ u. NoneTwice (unit_keys u)) some → NoneTwice (units_keys (outs n some))
  unfolding copies units_keys
  copies_none n [] are h = tt
  copies_none n (u ∷ some) are h =
      let here = copy_keys n u (are n u (inl (refl, refl))) in
      none_append (unit_keys (unit_map (copy_for same places n) u)) (units_keys (outs (suc n) some))
      (subst NoneTwice (sym here) (none_map (copy n) (copy_one n) (unit_keys u) h.0)) (copies_none (suc n) some (λ m v h. are m v (inr h)) h.1)
      (λ k a b. (let o = in_map_from (copy n) k (unit_keys u) (subst (λ (w : List (Copy P)). In k w) here a) in
      let e : n ≡ k.unit = ap (λ (c : Copy P). c.unit) o.is in
      let more = from_above (suc n) some (λ m v h. are m v (inr h)) k b in omega arith))

  -- ---- references

  abbrev HasEntry : Copy P → Type 0
  HasEntry k = (d : Seen (Copy P)) × In d (all_seen (outs 0 us)) × (d.at ≡ k)

  -- an entry stands at each place of a sibling list
  pub entry_there : (f : Entries P) (p : P) → In p (keys f) → (d : Seen P) × In d (seen f) × (d.at ≡ p)
  unfolding keys seen
  entry_there End p h = absurd h
  entry_there (Entry e f g) p (inl x) = (see e f, inl refl, x)
  entry_there (Entry e f g) p (inr r) = elim (in_cases p (keys f) (keys g) r) [
    | inl a ↦ (let o = entry_there f p a in (o.0, inr (in_left o.0 (seen f) (seen g) o.1), o.2))
    | inr b ↦ (let o = entry_there g p b in (o.0, inr (in_right o.0 (seen f) (seen g) o.1), o.2))
  ]

  pub nth_copied : (s : ℕ) (some : List (DwUnit P)) (m : ℕ) (u : DwUnit P) → Nth s some m u → In (unit_map (copy_for same places m) u) (outs s some)
  unfolding copies
  nth_copied s [] m u h = absurd h
  nth_copied s (x ∷ some) m u (inl e) = inl (ap (λ (k : ℕ). unit_map (copy_for same places k) x) e.0 ∙ ap (λ (w : DwUnit P). unit_map (copy_for same places m) w) e.1)
  nth_copied s (x ∷ some) m u (inr r) = inr (nth_copied (suc s) some m u r)

  pub nth_source : (s : ℕ) (some : List (DwUnit P)) (m : ℕ) (list : List P) → Nth s (map entry_keys some) m list → (u : DwUnit P) × Nth s some m u × (entry_keys u ≡ list)
  nth_source s [] m list h = absurd h
  nth_source s (x ∷ some) m list (inl e) = (x, inl (e.0, refl), e.1)
  nth_source s (x ∷ some) m list (inr r) = let o = nth_source (suc s) some m list r in (o.0, inr o.1, o.2)

  stands : AreFrom 0 us → (m : ℕ) (p : P) → SourceIn 0 places m p → HasEntry (copy m p)
  stands are m p o =
      let u = nth_source 0 us m o.list o.nth in
      let f = copy_for same places m in
      let there = nth_copied 0 us m u.0 u.1 in
      let v = unit_map (copy_for same places m) u.0 in
      let own : In p (entry_keys u.0) = subst (λ (w : List P). In p w) (sym u.2) o.there in
      let at : copy_for same places m p ≡ copy m p = own_copy m p (subst (λ (w : List P). In p w) (sym (are m u.0 u.1).entries) own) in
      elim own [
        | inl a ↦ (see v.root v.below, root_seen (outs 0 us) v there, ap f a ∙ at)
        | inr b ↦
            let d = entry_there u.0.below p b in
            let e : Seen (Copy P) = seen_map (copy_for same places m) d.0 in
            let is : In e (seen v.below) =
            subst (λ (w : List (Seen (Copy P))). In e w) (sym (seen_entries (copy_for same places m) u.0.below)) (in_map (seen_map (copy_for same places m)) d.0 (seen u.0.below) d.1) in
            (e, entry_seen (outs 0 us) v e there is, ap f d.2 ∙ at)
      ]

  -- ---- what the values of sources name

  module _ (c : Choice P) where
    abbrev CanSite : Site P → Type 0
    CanSite s = CanCopy same places c s

    abbrev Found : ℕ → Seen P → Type 0
    Found n e = (a : Named P) (p : P) → In a e.attrs → In p a.value.refs → ¬ IsLost same places n p

    of_site : (n : ℕ) (source : P) (i : ℕ) (attrs : List (Attr P)) → Each CanSite (sites_of n source i attrs) → (a : Named P) (p : P) → In a (map named_value attrs) → In p a.value.refs
        → ¬ IsLost same places n p
    of_site n source i [] h a p is ref = absurd is
    of_site n source i (x ∷ attrs) h a p (inl e) ref =
        each_in (λ q. ¬ IsLost same places n q) p x.value.refs h.0.imported (subst (λ (w : Named P). In p w.value.refs) (sym e) ref)
    of_site n source i (x ∷ attrs) h a p (inr r) ref = of_site n source (suc i) attrs h.1 a p r ref

    of_nodes : (n : ℕ) (xs ys : List (Node P)) → Each CanSite (sites_in n (xs ++ ys)) → Each CanSite (sites_in n xs) × Each CanSite (sites_in n ys)
    unfolding sites_in
    of_nodes n [] ys h = (tt, h)
    of_nodes n (x ∷ xs) ys h =
        let o = each_split CanSite (sites_of n x.at 0 x.attrs) (sites_in n (xs ++ ys)) h in
        let more = of_nodes n xs ys o.1 in
        (each_append CanSite (sites_of n x.at 0 x.attrs) (sites_in n xs) o.0 more.0, more.1)

    of_seen : (n : ℕ) (f : Entries P) → Each CanSite (sites_in n (nodes f)) → (e : Seen P) → In e (seen f) → Found n e
    unfolding seen nodes sites_in
    of_seen n End h e is = absurd is
    of_seen n (Entry x f g) h e (inl y) =
        let o = each_split CanSite (sites_of n x.at 0 x.attrs) (sites_in n (nodes f ++ nodes g)) h in
        λ a p is ref. of_site n x.at 0 x.attrs o.0 a p (subst (λ (w : Seen P). In a w.attrs) (sym y) is) ref
    of_seen n (Entry x f g) h e (inr r) =
        let o = each_split CanSite (sites_of n x.at 0 x.attrs) (sites_in n (nodes f ++ nodes g)) h in
        let two = of_nodes n (nodes f) (nodes g) o.1 in
        elim (in_cases e (seen f) (seen g) r) [ inl a ↦ of_seen n f two.0 e a | inr b ↦ of_seen n g two.1 e b ]

    pub record OfUnit (s : ℕ) (some : List (DwUnit P)) (v : DwUnit (Copy P)) : Type 0 where
      pub number : ℕ
      pub unit : DwUnit P
      pub good : Each CanSite (sites_in number (unit.root ∷ nodes unit.below))
      pub unit_is : unit_map (copy_for same places number) unit ≡ v

    of_unit : (s : ℕ) (some : List (DwUnit P)) → Each CanSite (sites_from s some) → (v : DwUnit (Copy P)) → In v (outs s some) → OfUnit s some v
    unfolding copies sites_from
    of_unit s [] h v is = absurd is
    of_unit s (u ∷ some) h v (inl e) =
        let o = each_split CanSite (sites_in s (u.root ∷ nodes u.below)) (sites_from (suc s) some) h in record { number = s; unit = u; good = o.0; unit_is = e }
    of_unit s (u ∷ some) h v (inr r) =
        let o = each_split CanSite (sites_in s (u.root ∷ nodes u.below)) (sites_from (suc s) some) h in
        let more = of_unit (suc s) some o.1 v r in
        record { number = more.number; unit = more.unit; good = more.good; unit_is = more.unit_is }

    -- what a copy of an entry names
    named_there : AreFrom 0 us → (n : ℕ) (e : Seen P) → Found n e → (a : Named (Copy P)) (q : Copy P) → In a (seen_map (copy_for same places n) e).attrs → In q a.value.refs → HasEntry q
    named_there are n e found a q is ref =
        let f = copy_for same places n in
        let x = in_map_from (named_map (copy_for same places n)) a e.attrs is in
        let r = in_map_from (copy_for same places n) q x.source.value.refs (subst (λ (w : Named (Copy P)). In q w.value.refs) (sym x.is) ref) in
        by r.source (found x.source r.source x.there r.there) r.is (unit_for same places n r.source) refl
      where
        by : (p : P) → ¬ IsLost same places n p → copy_for same places n p ≡ q → (o : Option ℕ) → unit_for same places n p ≡ o → HasEntry q
        by p kept at None e = absurd (kept e)
        by p kept at (Some m) e =
            let d = stands are m p (unit_at same test places n p m e) in
            (d.0, d.1, d.2 ∙ ap (λ (w : Option ℕ). copy (unwrap_or w n) p) (sym e) ∙ at)

    pub copies_closed : AreFrom 0 us → Each CanSite (sites_from 0 us) → Closed (outs 0 us)
    unfolding sites_in
    copies_closed are all e a q there attr ref = elim (in_cases e (seen_roots (outs 0 us)) (seen_below (outs 0 us)) there) [
      | inl x ↦
          let o = root_from (outs 0 us) e x in
          let u = of_unit 0 us all o.unit o.there in
          let f = copy_for same places u.number in
          let g = each_split CanSite (sites_of u.number u.unit.root.at 0 u.unit.root.attrs) (sites_in u.number (nodes u.unit.below)) u.good in
          let is : seen_map (copy_for same places u.number) (see u.unit.root u.unit.below) ≡ e =
          sym (see_map (copy_for same places u.number) u.unit.root u.unit.below) ∙ ap (λ (w : DwUnit (Copy P)). see w.root w.below) u.unit_is ∙ o.is in
          named_there are u.number (see u.unit.root u.unit.below) (of_site u.number u.unit.root.at 0 u.unit.root.attrs g.0) a q (subst (λ (w : Seen (Copy P)). In a w.attrs) (sym is) attr) ref
      | inr x ↦
          let o = seen_from (outs 0 us) e x in
          let u = of_unit 0 us all o.unit o.there in
          let f = copy_for same places u.number in
          let g = each_split CanSite (sites_of u.number u.unit.root.at 0 u.unit.root.attrs) (sites_in u.number (nodes u.unit.below)) u.good in
          let is : In e (seen (entries_map (copy_for same places u.number) u.unit.below)) = subst (λ (w : DwUnit (Copy P)). In e (seen w.below)) (sym u.unit_is) o.is in
          let d = in_map_from (seen_map (copy_for same places u.number)) e (seen u.unit.below)
          (subst (λ (w : List (Seen (Copy P))). In e w) (seen_entries (copy_for same places u.number) u.unit.below) is) in
          named_there are u.number d.source (of_seen u.number u.unit.below g.1 d.source d.there) a q (subst (λ (w : Seen (Copy P)). In a w.attrs) (sym d.is) attr) ref
    ]

-- ---- all of it

module _ {P : Type 0} (same : P → P → Bool) (test : IsTest same) (w : WithCommon P) (apart : NoneTwice (units_keys (units_with_common w))) where
  pub in_all : (u : DwUnit P) → In u (whole_units w.own) → In u (units_with_common w) × (is_partial u.kind ≡ false)
  in_all u is = let o = in_whole w.own u is in (in_left u w.own w.common o.0, o.1)

  sources_none : (some : List (DwUnit P)) → ((u : DwUnit P) → In u some → In u (whole_units w.own)) → Each (λ u. NoneTwice (unit_keys u)) (map (source_unit same (units_with_common w)) some)
  sources_none [] into = tt
  sources_none (u ∷ some) into =
      (let o = in_all u (into u (inl refl)) in source_none same test (units_with_common w) apart u o.0 o.1, sources_none some (λ v is. into v (inr is)))

  pub alone : (u : DwUnit P) → In u (source_units same w) → (m : ℕ) → SourceIn 0 (source_places same w) m u.at → ⊥
  alone u is m o =
      let x = in_map_from (source_unit same (units_with_common w)) u (whole_units w.own) is in
      let y = in_map_from (λ (v : DwUnit P). entry_keys v) o.list (source_units same w) (nth_in 0 (source_places same w) m o.list o.nth) in
      let z = in_map_from (source_unit same (units_with_common w)) y.source (whole_units w.own) y.there in
      let key : In u.at (entry_keys y.source) = subst (λ (l : List P). In u.at l) (sym y.is) o.there in
      let own : In u.at (entry_keys (source_unit same (units_with_common w) z.source)) = subst (λ (v : DwUnit P). In u.at (entry_keys v)) (sym z.is) key in
      let at : x.source.at ≡ u.at = ap (λ (v : DwUnit P). v.at) x.is in
      no_unit same test (units_with_common w) apart x.source z.source (in_all x.source x.there).0 (in_all z.source z.there).0
      (subst (λ (p : P). In p (entry_keys (source_unit same (units_with_common w) z.source))) (sym at) own)

  pub names_apart : NoneTwice (units_keys (expanded same w))
  names_apart =
      copies_none same test (source_units same w) 0 (source_units same w) (all_from same test (source_units same w) alone) (sources_none (whole_units w.own) (λ u is. is))

  pub names_closed : (c : Choice P) → AllCopied same c w → Closed (expanded same w)
  names_closed c all = copies_closed same test (source_units same w) c (all_from same test (source_units same w) alone) all
