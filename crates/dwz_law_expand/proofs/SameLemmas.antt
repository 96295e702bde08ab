-- New units that show the sources of units mean what these meant, imports expanded.
use Rattle.std.proofs.Common.{◌≡◌, ◌⊎◌, ℕ, suc, Bool, true, false, List, [], ◌∷◌, ◌++◌, map, refl, sym, ap, subst, ◌∙◌, inl, inr}
use Rattle.dwz_def_reading.specs.Lists.{Each, In, NoneTwice, Nth}
use Rattle.dwz_def_reading.proofs.ListFacts.{in_cases, in_left, in_right}
use Rattle.dwz_def_reading.proofs.Members.{each_in, in_map_from, in_nth, nth_in}
use Rattle.dwz_def_reading.specs.Documents.{Attr, Compile, DwUnit, Entries, Kind, Node, OfType, Partial, kind_map}
use Rattle.dwz_def_reading.specs.Trees.{End, Entry}
use Rattle.dwz_def_tops.specs.Seen.{IsImport, IsPartial, IsShown, Named, Seen, all_seen, named_map, named_value, see, seen}
use Rattle.dwz_def_tops.specs.Shown.{AreShown, HasMain, IsShownUnit, units_keys}
use Rattle.dwz_def_tops.specs.Spaces.{IsSpace}
use Rattle.dwz_def_tops.proofs.SeenLemmas.{entry_seen, root_seen}
use Rattle.dwz_def_tops.proofs.ShownLemmas.{space_to}
use Rattle.dwz_def_encoding.specs.Meant.{entry_keys}
use Rattle.dwz_def_cross.specs.CrossLook.{CrossAlike, CrossAttrs, CrossEntries, CrossEqual, CrossNode, CrossRefs, CrossTarget, InTops, IsPartialSpace, Roots, Spaces}
use Rattle.dwz_def_cross.specs.Tops.{CrossTop, IsCrossTop, IsTopOf, StandsUnder, WithCommon, type_top, units_with_common, unless_partial, whole_units}
use Rattle.dwz_def_cross.proofs.KeptLemmas.{kept_alike}
use Rattle.dwz_def_cross.proofs.TopPlaces.{InSpace, InTop, PlaceIn, along, along_shown, path_to, top_at, top_seen, where_in}
use Rattle.dwz_def_expand.specs.Chosen.{Choice}
use Rattle.dwz_def_expand.specs.ExpandLaws.{IsTest}
use Rattle.dwz_def_expand.specs.Refusals.{AllCopied, CanCopy, IsLost, nodes, sites}
use Rattle.dwz_def_expand.specs.Source.{Copy, copy_for, is_partial, source_places, source_unit, source_units, sources_below}
use Rattle.dwz_def_expand.proofs.SourceLemmas.{in_whole}
use Rattle.dwz_def_expand.proofs.WholeLemmas.{entry_there}
use Rattle.dwz_def_expand.specs.After.{SpacesFit}
use Rattle.dwz_law_expand.proofs.CopyLemmas.{copied_to, nth_map, own_copied}
use Rattle.dwz_law_expand.proofs.SiteLemmas.{site, site_from}
use Rattle.dwz_law_expand.proofs.TopLemmas.{space_from, top_back, top_from, top_to}

-- new units in order show the sources, each along the function of its number
abbrev pub AllShown : {P Q : Type 0} → (ℕ → P → Q) → ℕ → List (DwUnit P) → List (DwUnit Q) → Type 0
AllShown g s [] [] = Unit {0}
AllShown g s (u ∷ us) (x ∷ xs) = IsShownUnit (g s) u x × AllShown g (suc s) us xs
AllShown g s _ _ = ⊥

pub record ShownAt {P Q : Type 0} (g : ℕ → P → Q) (s n : ℕ) (u : DwUnit P) (xs : List (DwUnit Q)) : Type 0 where
  pub unit : DwUnit Q
  pub nth : Nth s xs n unit
  pub shown : IsShownUnit (g n) u unit

pub shown_at : {P Q : Type 0} (g : ℕ → P → Q) (s : ℕ) (us : List (DwUnit P)) (xs : List (DwUnit Q)) → AllShown g s us xs → (n : ℕ) (u : DwUnit P) → Nth s us n u → ShownAt g s n u xs
shown_at g s [] xs h n u nth = absurd nth
shown_at g s (y ∷ us) [] h n u nth = absurd h
shown_at {P} {Q} g s (y ∷ us) (x ∷ xs) h n u (inl e) =
    record { unit = x; nth = inl (e.0, refl); shown = subst (λ (m : ℕ). IsShownUnit (g m) u x) e.0 (subst (λ (v : DwUnit P). IsShownUnit (g s) v x) e.1 h.0) }
shown_at g s (y ∷ us) (x ∷ xs) h n u (inr r) = let o = shown_at g (suc s) us xs h.1 n u r in record { unit = o.unit; nth = inr o.nth; shown = o.shown }

-- an entry that is seen is one of the list
seen_node : {P : Type 0} (f : Entries P) (e : Seen P) → In e (seen f) → (d : Node P) × In d (nodes f) × (e.attrs ≡ map named_value d.attrs)
unfolding seen nodes
seen_node End e h = absurd h
seen_node (Entry d c n) e (inl q) = (d, inl refl, sym (ap (λ (w : Seen _). w.attrs) q))
seen_node (Entry d c n) e (inr r) = elim (in_cases e (seen c) (seen n) r) [
  | inl a ↦ (let o = seen_node c e a in (o.0, inr (in_left o.0 (nodes c) (nodes n) o.1), o.2))
  | inr b ↦ (let o = seen_node n e b in (o.0, inr (in_right o.0 (nodes c) (nodes n) o.1), o.2))
]

all_whole : {Q : Type 0} (units : List (DwUnit Q)) → Each (λ u. ¬ IsPartial u.kind) units → whole_units units ≡ units
unfolding whole_units
all_whole [] h = refl
all_whole {Q} (x ∷ units) h = by x.kind refl (all_whole units h.1) where
  by : (k : Kind Q) → x.kind ≡ k → whole_units units ≡ units → unless_partial k x (whole_units units) ≡ x ∷ units
  by Compile e rest = ap (λ (w : List (DwUnit Q)). x ∷ w) rest
  by (OfType s m) e rest = ap (λ (w : List (DwUnit Q)). x ∷ w) rest
  by Partial e rest = absurd (h.0 (subst IsPartial (sym e) tt))

no_more : {X : Type 0} (xs : List X) → xs ++ [] ≡ xs
no_more [] = refl
no_more {X} (x ∷ xs) = ap (λ (ys : List X). x ∷ ys) (no_more xs)

-- what is asked of a file, of the places of copies, and of the new units, which show the sources
pub record Shows (P Q : Type 0) : Type 0 where
  pub same : P → P → Bool
  pub test : IsTest same
  pub w : WithCommon P
  pub apart : NoneTwice (units_keys (units_with_common w))
  pub c : Choice P
  pub copied : AllCopied same c w
  pub fit : SpacesFit same w
  pub mains : (u : DwUnit P) → In u w.own → HasMain u
  pub place : Copy P → Q
  pub xs : List (DwUnit Q)
  pub whole_xs : Each (λ u. ¬ IsPartial u.kind) xs
  pub shows : AllShown (λ n p. place (copy_for same (source_places same w) n p)) 0 (source_units same w) xs

module _ {P Q : Type 0} (input : Shows P Q) where
  abbrev same : P → P → Bool
  same = input.same

  abbrev test : IsTest input.same
  test = input.test

  abbrev w : WithCommon P
  w = input.w

  abbrev apart : NoneTwice (units_keys (units_with_common input.w))
  apart = input.apart

  abbrev c : Choice P
  c = input.c

  abbrev place : Copy P → Q
  place = input.place

  abbrev pub xs : List (DwUnit Q)
  xs = input.xs

  abbrev pub all : List (DwUnit P)
  all = units_with_common w

  abbrev pub us : List (DwUnit P)
  us = source_units same w

  abbrev pub g : ℕ → P → Q
  g n p = place (copy_for same (source_places same w) n p)

  abbrev pub v' : WithCommon Q
  v' = record { own = xs; common = [] }

  abbrev Kept : ℕ → P → Type 0
  Kept n p = ¬ IsLost same (source_places same w) n p

  -- ---- the n-th unit, its sources, and what shows them

  pub record Numbered (n : ℕ) (su : DwUnit P) : Type 0 where
    pub unit : DwUnit P
    pub whole_nth : Nth 0 (whole_units w.own) n unit
    pub is : source_unit same all unit ≡ su
    pub own : In unit w.own
    pub there : In unit all
    pub whole : is_partial unit.kind ≡ false

  pub numbered : (n : ℕ) (su : DwUnit P) → Nth 0 us n su → Numbered n su
  numbered n su nth =
      let o = nth_map (source_unit same all) 0 (whole_units w.own) n su nth in
      let i = in_whole w.own o.0 (nth_in 0 (whole_units w.own) n o.0 o.1) in
      record { unit = o.0; whole_nth = o.1; is = o.2; own = i.0; there = in_left o.0 w.own w.common i.0; whole = i.1 }

  pub shown : (n : ℕ) (su : DwUnit P) → Nth 0 us n su → ShownAt g 0 n su xs
  shown n su nth = shown_at g 0 us xs input.shows n su nth

  pub new_whole : whole_units xs ≡ xs
  new_whole = all_whole xs input.whole_xs

  pub in_new : (x : DwUnit Q) → In x xs → In x (units_with_common v')
  in_new x is = in_left x xs [] is

  pub no_part : (e : Node Q) (v : DwUnit Q) → IsImport (units_with_common v') e v → ⊥
  no_part e v i = each_in (λ u. ¬ IsPartial u.kind) v xs input.whole_xs (subst (λ (l : List (DwUnit Q)). In v l) (no_more xs) i.unit) i.partial

  -- ---- what sources name is kept

  abbrev pub SourceOf : DwUnit P → Seen P → Type 0
  SourceOf su e = (see su.root su.below ≡ e) ⊎ In e (seen su.below)

  ref_kept : (n : ℕ) (su : DwUnit P) → Nth 0 us n su → (d : Node P) → In d (su.root ∷ nodes su.below) → (a : Named P) → In a (map named_value d.attrs) → (p : P) → In p a.value.refs → Kept n p
  ref_kept n su nth d there a is p r =
      let o = in_map_from named_value a d.attrs is in
      let i = in_nth 0 d.attrs o.source o.there in
      let can = each_in (CanCopy same (source_places same w) c) (site n d.at i.number o.source) (sites same w) input.copied (site_from 0 us n su nth d there i.number o.source i.nth) in
      each_in (Kept n) p o.source.value.refs can.imported (subst (λ (x : Named P). In p x.value.refs) (sym o.is) r)

  pub source_kept : (n : ℕ) (su : DwUnit P) → Nth 0 us n su → (e : Seen P) → SourceOf su e → (a : Named P) → In a e.attrs → (p : P) → In p a.value.refs → Kept n p
  source_kept n su nth e (inl q) a is p r = ref_kept n su nth su.root (inl refl) a (subst (λ (x : Seen P). In a x.attrs) (sym q) is) p r
  source_kept n su nth e (inr h) a is p r =
      let o = seen_node su.below e h in ref_kept n su nth o.0 (inr o.1) a (subst (λ (l : List (Named P)). In a l) o.2 is) p r

  in_all_seen : (n : ℕ) (su : DwUnit P) → Nth 0 us n su → (e : Seen P) → SourceOf su e → In e (all_seen us)
  in_all_seen n su nth e (inl q) = subst (λ (x : Seen P). In x (all_seen us)) q (root_seen us su (nth_in 0 us n su nth))
  in_all_seen n su nth e (inr h) = entry_seen us su e (nth_in 0 us n su nth) h

  -- ---- tops and what stands for them

  pub record Pair (a : CrossTop P) (b : CrossTop Q) : Type 0 where
    pub number : ℕ
    pub source : DwUnit P
    pub nth : Nth 0 us number source
    pub first : IsCrossTop all a
    pub second : IsCrossTop (units_with_common v') b
    pub names : a.names ≡ b.names
    pub node : IsShown (g number) a.node b.node
    pub below : AreShown (g number) a.below b.below
    pub known : SourceOf source (see a.node a.below)
    pub known_below : (d : Seen P) → In d (seen a.below) → SourceOf source d

  pub kind_of : (n : ℕ) (su : DwUnit P) (nth : Nth 0 us n su) → su.kind ≡ (numbered n su nth).unit.kind
  kind_of n su nth = ap (λ (x : DwUnit P). x.kind) (sym (numbered n su nth).is)

  top_old : (n : ℕ) (su : DwUnit P) (nth : Nth 0 us n su) → su.kind ≡ Compile → (t : CrossTop P) → StandsUnder t.names t su.below → IsCrossTop all t
  top_old n su nth kind t stands =
      let at = numbered n su nth in
      let compile : at.unit.kind ≡ Compile = sym (kind_of n su nth) ∙ kind in
      elim (top_from same test all apart at.unit compile t (subst (λ (x : DwUnit P). StandsUnder t.names t x.below) (sym at.is) stands)) [
        | inl a ↦ (at.unit, at.there, subst (λ (k : Kind P). IsTopOf k at.unit t) (sym compile) a)
        | inr b ↦ (b.0, b.1.import.unit, by b.0 b.0.kind refl b.1.import.partial b.2)
      ]
    where
      by : (v : DwUnit P) (k : Kind P) → v.kind ≡ k → IsPartial v.kind → StandsUnder t.names t v.below → IsTopOf v.kind v t
      by v Partial e part h = subst (λ (k : Kind P). IsTopOf k v t) (sym e) h
      by v Compile e part h = absurd (subst IsPartial e part)
      by v (OfType s m) e part h = absurd (subst IsPartial e part)

  pub image : (n : ℕ) (su : DwUnit P) (nth : Nth 0 us n su) → su.kind ≡ Compile → (t : CrossTop P) → StandsUnder t.names t su.below
      → (b : CrossTop Q) × StandsUnder b.names b (shown n su nth).unit.below × Pair t b
  image n su nth kind t stands =
      let x = shown n su nth in
      let o = top_to (g n) t.names t su.below x.unit.below x.shown.below stands in
      let compile : x.unit.kind ≡ Compile = x.shown.kind ∙ ap (kind_map (g n)) kind in
      let under : StandsUnder o.top.names o.top x.unit.below = subst (λ (names : List (List ℕ)). StandsUnder names o.top x.unit.below) (sym o.names_are) o.stands in
      let s = top_seen t.names t su.below stands in (
        o.top,
        under,
        record {
          number = n;
          source = su;
          nth = nth;
          first = top_old n su nth kind t stands;
          second = (x.unit, in_new x.unit (nth_in 0 xs n x.unit x.nth), subst (λ (k : Kind Q). IsTopOf k x.unit o.top) (sym compile) under);
          names = sym o.names_are;
          node = o.node;
          below = o.below;
          known = inr s.0;
          known_below = λ d is. inr (s.1 d is);
        },
      )

  pub back_image : (n : ℕ) (su : DwUnit P) (nth : Nth 0 us n su) → su.kind ≡ Compile → (b : CrossTop Q) → StandsUnder b.names b (shown n su nth).unit.below → (t : CrossTop P) × StandsUnder t.names t su.below × Pair t b
  back_image n su nth kind b stands =
      let x = shown n su nth in
      let o = top_back (g n) b.names b su.below x.unit.below x.shown.below stands in
      let compile : x.unit.kind ≡ Compile = x.shown.kind ∙ ap (kind_map (g n)) kind in
      let under : StandsUnder o.top.names o.top su.below = subst (λ (names : List (List ℕ)). StandsUnder names o.top su.below) (sym o.names_are) o.stands in
      let s = top_seen o.top.names o.top su.below under in (
        o.top,
        under,
        record {
          number = n;
          source = su;
          nth = nth;
          first = top_old n su nth kind o.top under;
          second = (x.unit, in_new x.unit (nth_in 0 xs n x.unit x.nth), subst (λ (k : Kind Q). IsTopOf k x.unit b) (sym compile) stands);
          names = o.names_are;
          node = o.node;
          below = o.below;
          known = inr s.0;
          known_below = λ d is. inr (s.1 d is);
        },
      )

  pub type_pair : (n : ℕ) (su : DwUnit P) (nth : Nth 0 us n su) → (signature : ℕ) (main : P) → su.kind ≡ OfType signature main → Pair (type_top su) (type_top (shown n su nth).unit)
  type_pair n su nth signature main kind =
      let x = shown n su nth in
      let at = numbered n su nth in
      let old : at.unit.kind ≡ OfType signature main = sym (kind_of n su nth) ∙ kind in
      let new : x.unit.kind ≡ kind_map (g n) (OfType signature main) = x.shown.kind ∙ ap (kind_map (g n)) kind in
      let below : su.below ≡ at.unit.below = ap (λ (y : DwUnit P). y.below) (sym at.is) ∙ ap (λ (k : Kind P). sources_below same all k at.unit.below) old in
      record {
        number = n;
        source = su;
        nth = nth;
        first = (at.unit, at.there, subst (λ (k : Kind P). IsTopOf k at.unit (type_top su)) (sym old) (refl, ap (λ (y : DwUnit P). y.root) (sym at.is), below));
        second = (x.unit, in_new x.unit (nth_in 0 xs n x.unit x.nth), subst (λ (k : Kind Q). IsTopOf k x.unit (type_top x.unit)) (sym new) (refl, refl, refl));
        names = refl;
        node = x.shown.root;
        below = x.shown.below;
        known = inl refl;
        known_below = λ d is. inr is;
      }

  -- ---- targets

  abbrev Unnamed : P → Type 0
  Unnamed p = (names : List (List ℕ)) → ¬ IsPartialSpace w names p

  module _ (R : CrossTop P → CrossTop Q → Type 0) (holds : (a : CrossTop P) (b : CrossTop Q) → Pair a b → R a b) where
    abbrev Target : P → Q → Type 0
    Target p q = CrossTarget R w v' p q

    in_unit : (n : ℕ) (x : DwUnit Q) → Nth 0 xs n x → Nth 0 (whole_units v'.own) n x
    in_unit n x nth = subst (λ (l : List (DwUnit Q)). Nth 0 l n x) (sym new_whole) nth

    root_target : (n : ℕ) (su : DwUnit P) (nth : Nth 0 us n su) → (k : Kind P) → su.kind ≡ k → Target su.root.at (g n su.root.at)
    unfolding type_pair
    root_target n su nth Compile e =
        let x = shown n su nth in
        let at = numbered n su nth in
        Roots n (record { unit = at.unit; nth = at.whole_nth; kind = sym (kind_of n su nth) ∙ e; at = ap (λ (y : DwUnit P). y.root.at) at.is })
        (record { unit = x.unit; nth = in_unit n x.unit x.nth; kind = x.shown.kind ∙ ap (kind_map (g n)) e; at = x.shown.root.at })
    root_target n su nth (OfType s m) e =
        let x = shown n su nth in
        let p = type_pair n su nth s m e in InTops [] (type_top su) (type_top x.unit) p.first p.second refl p.node.at (holds (type_top su) (type_top x.unit) p)
    root_target n su nth Partial e = absurd (let at = numbered n su nth in let both : true ≡ false = sym (ap is_partial (sym (kind_of n su nth) ∙ e)) ∙ at.whole in cc)

    place_target : (n : ℕ) (su : DwUnit P) (nth : Nth 0 us n su) → su.kind ≡ Compile → (p : P) → Unnamed p → PlaceIn su.below p → Target p (g n p)
    unfolding image
    place_target n su nth kind p none (InSpace names e s at) =
        let x = shown n su nth in
        let u = numbered n su nth in
        let compile : u.unit.kind ≡ Compile = sym (kind_of n su nth) ∙ kind in
        let d = space_to (g n) names su.below x.unit.below x.shown.below e s in
        elim (space_from same test all apart u.unit compile names e (subst (λ (y : DwUnit P). IsSpace names e y.below) (sym u.is) s)) [
          | inl own ↦ Spaces n names (record { unit = u.unit; nth = u.whole_nth; kind = compile; entry = e; space = own; at = at })
              (record { unit = x.unit; nth = in_unit n x.unit x.nth; kind = x.shown.kind ∙ ap (kind_map (g n)) kind; entry = d.0; space = d.1; at = d.2.at ∙ ap (g n) at })
          | inr part ↦ absurd (none names (record { unit = part.0; there = part.1.import.unit; kind = part.1.import.partial; entry = e; space = part.2; at = at }))
        ]
    place_target n su nth kind p none (InTop names e below stands path along_it) =
        let t = top_at names e below in
        let b = image n su nth kind t (stands names) in
        InTops path t b.0 b.2.first b.2.second along_it (along_shown (g n) path e below b.0.node b.0.below p b.2.node b.2.below along_it) (holds t b.0 b.2)

    below_target : (n : ℕ) (su : DwUnit P) (nth : Nth 0 us n su) → (d : Seen P) → In d (seen su.below) → Unnamed d.at → (k : Kind P) → su.kind ≡ k → Target d.at (g n d.at)
    unfolding type_pair
    below_target n su nth d is none Compile e = place_target n su nth e d.at none (where_in su.below d is)
    below_target n su nth d is none (OfType s m) e =
        let x = shown n su nth in
        let p = type_pair n su nth s m e in
        let a = path_to su.root su.below d.at (inr (along su.below d is)) in
        InTops a.0 (type_top su) (type_top x.unit) p.first p.second a.1 (along_shown (g n) a.0 su.root su.below x.unit.root x.unit.below d.at p.node p.below a.1) (holds (type_top su) (type_top x.unit) p)
    below_target n su nth d is none Partial e = absurd (let at = numbered n su nth in let both : true ≡ false = sym (ap is_partial (sym (kind_of n su nth) ∙ e)) ∙ at.whole in cc)

    target : (n : ℕ) (p : P) → Kept n p → Unnamed p → Target p (g n p)
    target n p kept none =
        let o = copied_to same test w apart c n p kept in
        let own = own_copied same test w apart c o.number o.unit o.nth p o.key in
        let same_place : g n p ≡ g o.number p = ap place (o.is ∙ sym own) in
        subst (λ (q : Q). Target p q) (sym same_place) (by o.number o.unit o.nth o.key)
      where
        by : (m : ℕ) (su : DwUnit P) → Nth 0 us m su → In p (entry_keys su) → Target p (g m p)
        by m su nth (inl e) = subst (λ (x : P). Target x (g m x)) e (root_target m su nth su.kind refl)
        by m su nth (inr h) =
            let d = entry_there same test us su.below p h in
            subst (λ (x : P). Target x (g m x)) d.2 (below_target m su nth d.0 d.1 (subst Unnamed (sym d.2) none) su.kind refl)

    refs_cross : (n : ℕ) (ps : List P) (qs : List Q) → qs ≡ map (g n) ps → ((p : P) → In p ps → Kept n p × Unnamed p) → CrossRefs R w v' ps qs
    refs_cross n [] [] e h = tt
    refs_cross n [] (q ∷ qs) e h = absurd cc
    refs_cross n (p ∷ ps) [] e h = absurd cc
    refs_cross n (p ∷ ps) (q ∷ qs) e h =
        let first : g n p ≡ q = cc in
        let rest : qs ≡ map (g n) ps = cc in
        let o = h p (inl refl) in
        (subst (λ (x : Q). Target p x) first (target n p o.0 o.1), refs_cross n ps qs rest (λ x is. h x (inr is)))

    attrs_cross : (n : ℕ) (old : List (Attr P)) (new : List (Attr Q)) → map named_value new ≡ map (named_map (g n)) (map named_value old)
        → ((a : Named P) → In a (map named_value old) → (p : P) → In p a.value.refs → Kept n p × Unnamed p) → CrossAttrs R w v' old new
    attrs_cross n [] [] e h = tt
    attrs_cross n [] (y ∷ new) e h = absurd cc
    attrs_cross n (x ∷ old) [] e h = absurd cc
    attrs_cross n (x ∷ old) (y ∷ new) e h =
        let first : named_value y ≡ named_map (g n) (named_value x) = cc in
        let rest : map named_value new ≡ map (named_map (g n)) (map named_value old) = cc in (
          sym (ap (λ (a : Named Q). a.name) first),
          sym (ap (λ (a : Named Q). a.value.plain) first),
          refs_cross n x.value.refs y.value.refs (ap (λ (a : Named Q). a.value.refs) first) (λ p is. h (named_value x) (inl refl) p is),
          attrs_cross n old new rest (λ a is. h a (inr is)),
        )

    -- an entry with the attributes of a source
    node_cross : (n : ℕ) (su : DwUnit P) → Nth 0 us n su → (d : Node P) (e : Node Q) → d.tag ≡ e.tag → map named_value e.attrs ≡ map (named_map (g n)) (map named_value d.attrs) → (s : Seen P) → SourceOf su s
        → s.attrs ≡ map named_value d.attrs → CrossNode R w v' d e
    node_cross n su nth d e tag attrs s is seen_so = record {
      tag = tag;
      attrs = attrs_cross n d.attrs e.attrs attrs (λ a there p r.
          (let here : In a s.attrs = subst (λ (l : List (Named P)). In a l) (sym seen_so) there in
          (source_kept n su nth s is a here p r, input.fit.unnamed s a p (in_all_seen n su nth s is) here r)));
    }

    shown_cross : (n : ℕ) (su : DwUnit P) → Nth 0 us n su → (d : Node P) (e : Node Q) → IsShown (g n) d e → (s : Seen P) → SourceOf su s → s.attrs ≡ map named_value d.attrs → CrossNode R w v' d e
    shown_cross n su nth d e h s is seen_so = node_cross n su nth d e (sym h.tag) h.attrs s is seen_so

    entries_cross : (n : ℕ) (su : DwUnit P) → Nth 0 us n su → (f : Entries P) (h : Entries Q) → AreShown (g n) f h → ((d : Seen P) → In d (seen f) → SourceOf su d) → CrossEntries R w v' f h
    unfolding seen
    entries_cross n su nth End End s k = tt
    entries_cross n su nth End (Entry d h m) s k = absurd s
    entries_cross n su nth (Entry e f l) End s k = absurd s
    entries_cross n su nth (Entry e f l) (Entry d h m) s k = (
      shown_cross n su nth e d s.0 (see e f) (k (see e f) (inl refl)) refl,
      entries_cross n su nth f h s.1 (λ x i. k x (inr (in_left x (seen f) (seen l) i))),
      entries_cross n su nth l m s.2 (λ x i. k x (inr (in_right x (seen f) (seen l) i))),
    )

    pair_equal : (a : CrossTop P) (b : CrossTop Q) → Pair a b → CrossEqual R w v' a b
    pair_equal a b p = record {
      names = p.names;
      node = shown_cross p.number p.source p.nth a.node b.node p.node (see a.node a.below) p.known refl;
      below = entries_cross p.number p.source p.nth a.below b.below p.below p.known_below;
    }

  pub pair_alike : (a : CrossTop P) (b : CrossTop Q) → Pair a b → CrossAlike w v' a b
  pair_alike a b p = kept_alike Pair w v' (pair_equal Pair (λ a b q. q)) a b p

  abbrev pub Alike : CrossTop P → CrossTop Q → Type 0
  Alike = CrossAlike w v'

  pub alike_node : (n : ℕ) (su : DwUnit P) → Nth 0 us n su → (d : Node P) (e : Node Q) → d.tag ≡ e.tag → map named_value e.attrs ≡ map (named_map (g n)) (map named_value d.attrs) → (s : Seen P) → SourceOf su s
      → s.attrs ≡ map named_value d.attrs → CrossNode Alike w v' d e
  alike_node = node_cross Alike pair_alike
