-- The values of sources, and why they can't be copied, along a function of places.
use Rattle.std.proofs.Common.{◌≡◌, ◌↔◌, ◌∙◌, ℕ, zero, suc, Bool, true, false, List, [], ◌∷◌, ◌++◌, get_or, map, Option, Some, if◌then◌else◌, refl, sym, ap, subst, inl, inr}
use Rattle.std.proofs.lemmas.List.{map-append}
use Rattle.dwz_model.specs.Lists.{Each}
use Rattle.dwz_model.specs.declared.fault.Fault.{Fault}
use Rattle.dwz_model.specs.declared.fault.Refusal.{Refusal}
use Rattle.dwz_def_cross.specs.Tops.{WithCommon}
use Rattle.dwz_def_encoding.specs.Placing.{has_key}
use Rattle.dwz_def_expand.specs.Chosen.{Choice, row_for}
use Rattle.dwz_def_expand.specs.OneFile.{OneFile, same_place, stored_where}
use Rattle.dwz_def_expand.specs.Output.{SiteRefusal, forms, sites_of_file}
use Rattle.dwz_def_expand.specs.Refusals.{LostFault, RowFault, Site, SiteFault, Where, is_copied, nodes, not_imported, no_row, sites, sites_from, sites_in, sites_of, with_numbers}
use Rattle.dwz_def_expand.specs.Source.{first_with, source_places, source_units, unit_for}
use Rattle.dwz_def_output.specs.Refusals.{InFile}
use Rattle.dwz_def_reading.specs.Documents.{Attr, DwUnit, Entries, Node, attr_map, entries_map, node_map, unit_map}
use Rattle.dwz_def_reading.specs.FirstOf.{OfFirst, OrElse}
use Rattle.dwz_def_reading.specs.Places.{Place}
use Rattle.dwz_def_reading.specs.Trees.{End, Entry}
use Rattle.dwz_expand_passes.specs.Renamed.{SameChoice, renamed}
use Rattle.dwz_expand_passes.proofs.SourceMaps.{places_mapped, units_mapped}
use Rattle.dwz_expand.specs.Refused.{NumberRefusal, SameWhere, StandForPlaces}

-- ---- the first of a list

or_mapped : {X : Type 0} (A B C D : X → Type 0) → ((x : X) → A x ↔ B x) → ((x : X) → C x ↔ D x) → (x : X) → OrElse A C x → OrElse B D x
or_mapped A B C D one two x (inl a) = inl ((one x).0 a)
or_mapped A B C D one two x (inr h) = inr ((λ y b. h.0 y ((one y).1 b)), (two x).0 h.1)

back : {A B : Type 0} → A ↔ B → B ↔ A
back h = (h.1, h.0)

or_same : {X : Type 0} (A B C D : X → Type 0) → ((x : X) → A x ↔ B x) → ((x : X) → C x ↔ D x) → (x : X) → OrElse A C x ↔ OrElse B D x
or_same A B C D one two x = (or_mapped A B C D one two x, or_mapped B A D C (λ y. back (one y)) (λ y. back (two y)) x)

pub first_mapped : {X Y Z : Type 0} (Has : Y → X → Type 0) (Is : Z → X → Type 0) (g : Y → Z) (ys : List Y) → Each (λ y. (x : X) → Has y x ↔ Is (g y) x) ys
    → (x : X) → OfFirst Has ys x ↔ OfFirst Is (map g ys) x
first_mapped Has Is g [] alike x = ((λ h. h), (λ h. h))
first_mapped Has Is g (y ∷ ys) alike x = or_same (Has y) (Is (g y)) (OfFirst Has ys) (OfFirst Is (map g ys)) alike.0 (first_mapped Has Is g ys alike.1) x

module _ {P Q : Type 0} (f : P → Q) (same : P → P → Bool) (other : Q → Q → Bool) (alike : (p q : P) → other (f p) (f q) ≡ same p q) where
  -- ---- values

  abbrev pub site_map : Site P → Site Q
  site_map s = record { unit = s.unit; source = f s.source; index = s.index; attr = attr_map f s.attr }

  of_mapped : (n : ℕ) (p : P) (i : ℕ) (attrs : List (Attr P)) → sites_of n (f p) i (map (attr_map f) attrs) ≡ map site_map (sites_of n p i attrs)
  of_mapped n p i [] = refl
  of_mapped n p i (a ∷ attrs) = ap (λ (w : List (Site Q)). site_map (record { unit = n; source = p; index = i; attr = a }) ∷ w) (of_mapped n p (suc i) attrs)

  nodes_mapped : (t : Entries P) → nodes (entries_map f t) ≡ map (node_map f) (nodes t)
  unfolding nodes entries_map
  nodes_mapped End = refl
  nodes_mapped (Entry e c n) =
      ap (λ (w : List (Node Q)). node_map f e ∷ w) ((λ i. nodes_mapped c i ++ nodes_mapped n i) ∙ sym (map-append (node_map f) (nodes c) (nodes n)))

  in_mapped : (n : ℕ) (ds : List (Node P)) → sites_in n (map (node_map f) ds) ≡ map site_map (sites_in n ds)
  unfolding sites_in
  in_mapped n [] = refl
  in_mapped n (d ∷ ds) =
      (λ i. of_mapped n d.at 0 d.attrs i ++ in_mapped n ds i) ∙ sym (map-append site_map (sites_of n d.at 0 d.attrs) (sites_in n ds))

  from_mapped : (n : ℕ) (us : List (DwUnit P)) → sites_from n (map (unit_map f) us) ≡ map site_map (sites_from n us)
  unfolding sites_from
  from_mapped n [] = refl
  from_mapped n (u ∷ us) =
      (λ i. (ap (λ (ds : List (Node Q)). sites_in n (node_map f u.root ∷ ds)) (nodes_mapped u.below) ∙ in_mapped n (u.root ∷ nodes u.below)) i ++ from_mapped (suc n) us i)
      ∙ sym (map-append site_map (sites_in n (u.root ∷ nodes u.below)) (sites_from (suc n) us))

  pub sites_mapped : (w : WithCommon P) → sites other (renamed f w) ≡ map site_map (sites same w)
  sites_mapped w = ap (sites_from 0) (units_mapped f same other alike w) ∙ from_mapped 0 (source_units same w)

  -- ---- what is lost

  has_mapped : (p : P) (ks : List P) → has_key other (f p) (map f ks) ≡ has_key same p ks
  unfolding has_key
  has_mapped p [] = refl
  has_mapped p (k ∷ ks) = (λ i. elim (alike k p i) as (λ _. Bool) [ true ↦ true | false ↦ has_mapped p ks i ])

  got_mapped : (places : List (List P)) (n : ℕ) → get_or (map (λ (list : List P). map f list) places) n [] ≡ map f (get_or places n [])
  got_mapped [] n = refl
  got_mapped (list ∷ places) zero = refl
  got_mapped (list ∷ places) (suc n) = got_mapped places n

  with_mapped : (n : ℕ) (places : List (List P)) (p : P) → first_with other n (map (λ (list : List P). map f list) places) (f p) ≡ first_with same n places p
  unfolding first_with
  with_mapped n [] p = refl
  with_mapped n (list ∷ places) p = (λ i. if has_mapped p list i then Some n else with_mapped (suc n) places p i)

  for_mapped : (places : List (List P)) (n : ℕ) (p : P) → unit_for other (map (λ (list : List P). map f list) places) n (f p) ≡ unit_for same places n p
  unfolding unit_for
  for_mapped places n p =
      (λ i. if (ap (has_key other (f p)) (got_mapped places n) ∙ has_mapped p (get_or places n [])) i then Some n else with_mapped 0 places p i)

  module _ (c : Choice P) (d : Choice Q) (at : Where P) (to : Where Q) (choice : SameChoice f c d) (stand : SameWhere f at to) (w : WithCommon P) where
    abbrev mine : List (List P)
    mine = source_places same w

    abbrev theirs : List (List Q)
    theirs = source_places other (renamed f w)

    unit_same : (n : ℕ) (p : P) → unit_for other theirs n (f p) ≡ unit_for same mine n p
    unit_same n p = ap (λ (ls : List (List Q)). unit_for other ls n (f p)) (places_mapped f same other alike w) ∙ for_mapped mine n p

    numbers_mapped : (k : ℕ) (ps : List P) → with_numbers k (map f ps) ≡ map (λ (r : ℕ × P). (r.0, f r.1)) (with_numbers k ps)
    unfolding with_numbers
    numbers_mapped k [] = refl
    numbers_mapped k (p ∷ ps) = ap (λ (rs : List (ℕ × Q)). (k, f p) ∷ rs) (numbers_mapped (suc k) ps)

    lost_same : (s : Site P) (r : ℕ × P) (fault : Fault) → LostFault same mine at s r fault ↔ LostFault other theirs to (site_map s) (r.0, f r.1) fault
    lost_same s r fault = (
      (λ h. (unit_same s.unit r.1 ∙ h.0, h.1 ∙ ap not_imported (sym (stand.named s.source s.index r.0)))),
      (λ h. (sym (unit_same s.unit r.1) ∙ h.0, h.1 ∙ ap not_imported (stand.named s.source s.index r.0))),
    )

    each_lost : (s : Site P) (rs : List (ℕ × P)) → Each (λ r. (fault : Fault) → LostFault same mine at s r fault ↔ LostFault other theirs to (site_map s) (r.0, f r.1) fault) rs
    each_lost s [] = tt
    each_lost s (r ∷ rs) = (lost_same s r, each_lost s rs)

    row_same : (s : Site P) → row_for (d.paths s.unit) s.attr.value.plain ≡ row_for (c.paths s.unit) s.attr.value.plain
    row_same s = ap (λ (o : Option (List (List ℕ))). row_for o s.attr.value.plain) (choice.paths s.unit)

    lacks_same : (s : Site P) (fault : Fault) → RowFault c at s fault ↔ RowFault d to (site_map s) fault
    lacks_same s fault = (
      (λ h. (
        record { constant = h.0.constant; file = h.0.file; copied = ap is_copied (choice.role s.source) ∙ h.0.copied; none = row_same s ∙ h.0.none },
        h.1 ∙ ap no_row (sym (stand.value s.source s.index)),
      )),
      (λ h. (
        record { constant = h.0.constant; file = h.0.file; copied = sym (ap is_copied (choice.role s.source)) ∙ h.0.copied; none = sym (row_same s) ∙ h.0.none },
        h.1 ∙ ap no_row (stand.value s.source s.index),
      )),
    )

    pub fault_same : (s : Site P) (fault : Fault) → SiteFault same mine c at s fault ↔ SiteFault other theirs d to (site_map s) fault
    fault_same s fault =
        let numbers = numbers_mapped 0 s.attr.value.refs in
        or_same (OfFirst (LostFault same mine at s) (with_numbers 0 s.attr.value.refs)) (OfFirst (LostFault other theirs to (site_map s)) (with_numbers 0 (map f s.attr.value.refs)))
        (RowFault c at s) (RowFault d to (site_map s))
        (λ g. subst (λ (rs : List (ℕ × Q)). OfFirst (LostFault same mine at s) (with_numbers 0 s.attr.value.refs) g ↔ OfFirst (LostFault other theirs to (site_map s)) rs g) (sym numbers)
        (first_mapped (LostFault same mine at s) (LostFault other theirs to (site_map s)) (λ (r : ℕ × P). (r.0, f r.1)) (with_numbers 0 s.attr.value.refs) (each_lost s
        (with_numbers 0 s.attr.value.refs)) g))
        (lacks_same s) fault

-- ---- in files

pub in_same : (A B : Fault → Type 0) (m n : ℕ) → m ≡ n → ((fault : Fault) → A fault ↔ B fault) → (r : Refusal) → InFile (λ k. A) m r ↔ InFile (λ k. B) n r
in_same A B m n file alike r = (
  (λ h. (h.0, (alike h.0).0 h.1, h.2 ∙ (λ i. record { file = file i; section = h.0.section; at = h.0.at; reason = h.0.reason }))),
  (λ h. (h.0, (alike h.0).1 h.1, h.2 ∙ (λ i. record { file = sym file i; section = h.0.section; at = h.0.at; reason = h.0.reason }))),
)

-- ---- of the file

module _ (f : OneFile) (place : ℕ → Place) (same : ℕ → ℕ → Bool) (c : Choice ℕ) (stands : Where ℕ) (file : ℕ → ℕ) (w : WithCommon ℕ) (h : StandForPlaces f place same c stands w) where
  refusal_same : (s : Site ℕ) → file s.source ≡ (place s.source).file → (r : Refusal) → NumberRefusal same c stands file w s r ↔ SiteRefusal f (site_map place same same_place h.alike s) r
  refusal_same s number r =
      subst (λ (said : WithCommon Place). NumberRefusal same c stands file w s r
      ↔ InFile (λ k. SiteFault same_place (source_places same_place said) (forms f) (stored_where f) (site_map place same same_place h.alike s)) (place s.source).file r) (sym h.said)
      (in_same (SiteFault same (source_places same w) c stands s)
      (SiteFault same_place (source_places same_place (renamed place w)) (forms f) (stored_where f) (site_map place same same_place h.alike s)) (file s.source) (place s.source).file number
      (fault_same place same same_place h.alike c (forms f) stands (stored_where f) h.choice h.stand w s) r)

  each_same : (ss : List (Site ℕ)) → Each (λ s. file s.source ≡ (place s.source).file) ss
      → Each (λ s. (r : Refusal) → NumberRefusal same c stands file w s r ↔ SiteRefusal f (site_map place same same_place h.alike s) r) ss
  each_same [] all = tt
  each_same (s ∷ ss) all = (refusal_same s all.0, each_same ss all.1)

  pub fault_law : Each (λ s. file s.source ≡ (place s.source).file) (sites same w)
      → (r : Refusal) → OfFirst (NumberRefusal same c stands file w) (sites same w) r ↔ OfFirst (SiteRefusal f) (sites_of_file f) r
  fault_law files r =
      let target : sites_of_file f ≡ map (site_map place same same_place h.alike) (sites same w) =
      ap (λ (said : WithCommon Place). sites same_place said) h.said ∙ sites_mapped place same same_place h.alike w in
      subst (λ (ss : List (Site Place)). OfFirst (NumberRefusal same c stands file w) (sites same w) r ↔ OfFirst (SiteRefusal f) ss r) (sym target)
      (first_mapped (NumberRefusal same c stands file w) (SiteRefusal f) (site_map place same same_place h.alike) (sites same w) (each_same (sites same w) files) r)
