-- Along images tops are shown. So looks of every depth find a top and its image equal, and units mean the same.
use Rattle.std.proofs.Common.{◌≡◌, ℕ, zero, suc, List, [], ◌∷◌, map, refl, sym, ap, subst, ◌∙◌, inl, inr}
use Rattle.dwz_def_reading.specs.Documents.{Attr, Compile, DwUnit, Entries, Kind, Node, OfType, Partial, kind_map, ref}
use Rattle.dwz_def_reading.specs.Lists.{In}
use Rattle.dwz_def_reading.specs.Trees.{End, Entry}
use Rattle.dwz_def_reading.proofs.ListFacts.{in_cases, in_left, in_right}
use Rattle.dwz_def_tops.specs.Lists.{Nth}
use Rattle.dwz_def_tops.specs.Seen.{Expands, InCompile, InsideSame, IsChild, IsImport, IsPartial, IsShown, Named, Seen, UnitSame, all_seen, named_map, named_value, see, seen, seen_below, seen_inner, seen_inside, seen_map, seen_roots}
use Rattle.dwz_def_tops.specs.Shown.{AreShown}
use Rattle.dwz_def_tops.proofs.SeenLemmas.{entry_seen, root_from, root_in, root_seen, seen_from, seen_in}
use Rattle.dwz_def_tops.proofs.ShownLemmas.{entry_under}
use Rattle.dwz_def_cross.specs.Tops.{CrossTop, IsCrossTop, IsExpanded, IsTopOf, StandsUnder, WithCommon, units_with_common, type_top, unless_partial, whole_units}
use Rattle.dwz_def_cross.specs.CrossLook.{CrossAlike, CrossAttrs, CrossEntries, CrossEqual, CrossLook, CrossNode, CrossRefs, CrossTarget, InTops, Roots, Spaces}
use Rattle.dwz_def_cross.specs.CrossLaws.{IsPairing}
use Rattle.dwz_def_cross.specs.CrossSame.{CrossSame, EachTwo, OneKind, SpacesAlike, TypesAlike, UnitsAlike}
use Rattle.dwz_def_cross.proofs.OneEntry.{one_below, one_root, seen_shown, tree_shown}
use Rattle.dwz_def_cross.proofs.TopPlaces.{InSpace, InTop, PlaceIn, along, along_shown, key_along, path_to, top_among, top_at, top_from, top_seen, top_under, where_in}

-- ---- pairs

pub record Paired {X Y : Type 0} (R : X → Y → Type 0) (s : ℕ) (xs : List X) (ys : List Y) (x : X) : Type 0 where
  pub number : ℕ
  pub other : Y
  pub nth : Nth s xs number x
  pub other_nth : Nth s ys number other
  pub related : R x other

two_of : {X Y : Type 0} (R : X → Y → Type 0) (s : ℕ) (xs : List X) (ys : List Y) → EachTwo R xs ys → (x : X) → In x xs → Paired R s xs ys x
two_of R s [] ys h x is = absurd is
two_of {X} R s (z ∷ xs) (y ∷ ys) h x (inl e) = record { number = s; other = y; nth = inl (refl, e); other_nth = inl (refl, refl); related = subst (λ (w : X). R w y) e h.0 }
two_of R s (z ∷ xs) (y ∷ ys) h x (inr r) = let o = two_of R (suc s) xs ys h.1 x r in record { number = o.number; other = o.other; nth = inr o.nth; other_nth = inr o.other_nth; related = o.related }
two_of R s (z ∷ xs) [] h x is = absurd h

two_more : {X Y : Type 0} (R S : X → Y → Type 0) (xs : List X) (ys : List Y) → ((x : X) (y : Y) → In x xs → R x y → S x y) → EachTwo R xs ys → EachTwo S xs ys
two_more R S [] [] f h = tt
two_more R S (x ∷ xs) (y ∷ ys) f h = (f x y (inl refl) h.0, two_more R S xs ys (λ a b is r. f a b (inr is) r) h.1)
two_more R S [] (y ∷ ys) f h = absurd h
two_more R S (x ∷ xs) [] f h = absurd h

whole_same : {P : Type 0} (units : List (DwUnit P)) → ((u : DwUnit P) → In u units → IsPartial u.kind → ⊥) → whole_units units ≡ units
unfolding whole_units
whole_same [] h = refl
whole_same {P} (u ∷ units) h = go u.kind refl ∙ ap (λ (w : List (DwUnit P)). u ∷ w) (whole_same units (λ x is. h x (inr is))) where
  go : (k : Kind P) → u.kind ≡ k → unless_partial k u (whole_units units) ≡ u ∷ whole_units units
  go Compile e = refl
  go (OfType s m) e = refl
  go Partial e = absurd (h u (inl refl) (subst IsPartial (sym e) tt))

inner_in : {P : Type 0} (units : List (DwUnit P)) (u : DwUnit P) (e : Seen P) → In u units → In e (seen_inside u.kind u.below) → In e (seen_inner units)
unfolding seen_inner
inner_in [] u e is h = absurd is
inner_in {P} (x ∷ units) u e (inl same) h = in_left e (seen_inside x.kind x.below) (seen_inner units) (subst (λ (w : DwUnit P). In e (seen_inside w.kind w.below)) (sym same) h)
inner_in (x ∷ units) u e (inr r) h = in_right e (seen_inside x.kind x.below) (seen_inner units) (inner_in units u e r h)

-- ---- tops of a unit after, imports expanded

partial_top : {P : Type 0} (k : Kind P) (u : DwUnit P) (b : CrossTop P) → IsPartial k → StandsUnder b.names b u.below → IsTopOf k u b
partial_top Partial u b p h = h
partial_top Compile u b p h = absurd p
partial_top (OfType s m) u b p h = absurd p

pub record Expanded {Q : Type 0} (units : List (DwUnit Q)) (x : DwUnit Q) (names : List (List ℕ)) (q : Q) : Type 0 where
  pub top : CrossTop Q
  pub is : IsExpanded units x top
  pub names_are : top.names ≡ names
  pub at : top.node.at ≡ q

expanded_of : {Q : Type 0} (units : List (DwUnit Q)) (x : DwUnit Q) (names : List (List ℕ)) (q : Q) → Expands units x names q → Expanded units x names q
expanded_of units x names q (inl c) =
    let o = top_from names c.entry x.below c.under c.no_space in
    record { top = top_at names c.entry o.0; is = inl (o.1 names, c.no_import); names_are = refl; at = c.at }
expanded_of units x names q (inr (e, v, child, imp, c)) =
    let o = top_from names c.entry v.below c.under c.no_space in
    record { top = top_at names c.entry o.0; is = inr (e, v, child, imp, (o.1 names, c.no_import)); names_are = refl; at = c.at }

expands_to : {Q : Type 0} (units : List (DwUnit Q)) (x : DwUnit Q) (b : CrossTop Q) → IsExpanded units x b → Expands units x b.names b.node.at
expands_to units x b (inl c) = let u = top_under b.names b x.below c.0 in inl (record { entry = b.node; under = u.0; no_space = u.1; no_import = c.1; at = refl })
expands_to units x b (inr (e, v, child, imp, c)) =
    let u = top_under b.names b v.below c.0 in
    inr (e, v, child, imp, record { entry = b.node; under = u.0; no_space = u.1; no_import = c.1; at = refl })

pub record SeenTop {Q : Type 0} (units : List (DwUnit Q)) (b : CrossTop Q) : Type 0 where
  pub top : IsCrossTop units b
  pub here : In (see b.node b.below) (seen_below units)
  pub below : (d : Seen Q) → In d (seen b.below) → In d (seen_below units)

expanded_seen : {Q : Type 0} (units : List (DwUnit Q)) (x : DwUnit Q) (b : CrossTop Q) → In x units → x.kind ≡ Compile → IsExpanded units x b → SeenTop units b
expanded_seen {Q} units x b there kind (inl c) =
    let s = top_seen b.names b x.below c.0 in
    record {
      top = (x, there, subst (λ (k : Kind Q). IsTopOf k x b) (sym kind) c.0);
      here = seen_in units x (see b.node b.below) there s.0;
      below = λ d i. seen_in units x d there (s.1 d i);
    }
expanded_seen units x b there kind (inr (e, v, child, imp, c)) =
    let s = top_seen b.names b v.below c.0 in
    record {
      top = (v, imp.unit, partial_top v.kind v b imp.partial c.0);
      here = seen_in units v (see b.node b.below) imp.unit s.0;
      below = λ d i. seen_in units v d imp.unit (s.1 d i);
    }

-- a child is seen
child_seen : {P : Type 0} (e : Node P) (f : Entries P) → IsChild e f → (g : Entries P) × In (see e g) (seen f)
unfolding seen
child_seen e End h = absurd h
child_seen {P} e (Entry d f g) (inl same) = (f, inl (ap (λ (x : Node P). see x f) same))
child_seen e (Entry d f g) (inr r) = (let o = child_seen e g r in (o.0, inr (in_right (see e o.0) (seen f) (seen g) o.1)))

-- ---- along a pairing

module _ {P Q : Type 0} (f : P → Q) (v : WithCommon P) (w : WithCommon Q) (pairing : IsPairing f v w) where
  in_all : (u : DwUnit P) → In u v.own → In u (units_with_common v)
  in_all u h = in_left u v.own v.common h

  abbrev Same : DwUnit P → DwUnit Q → Type 0
  Same = UnitSame f (units_with_common w)

  paired : (u : DwUnit P) → In u v.own → Paired Same 0 (whole_units v.own) (whole_units w.own) u
  paired u is =
      let whole = whole_same v.own pairing.kinds in
      two_of Same 0 (whole_units v.own) (whole_units w.own) (subst (λ (us : List (DwUnit P)). EachTwo Same us (whole_units w.own)) (sym whole) pairing.units) u
      (subst (λ (us : List (DwUnit P)). In u us) (sym whole) is)

  inside_of : (u : DwUnit P) (x : DwUnit Q) → Same u x → u.kind ≡ Compile → InsideSame f (units_with_common w) u x
  inside_of u x s e = subst (λ (k : Kind P). InCompile k (InsideSame f (units_with_common w) u x)) e s.inside

  kind_after : (u : DwUnit P) (x : DwUnit Q) (k : Kind P) → Same u x → u.kind ≡ k → x.kind ≡ kind_map f k
  kind_after u x k s e = s.kind ∙ ap (kind_map f) e

  -- an entry that stands in these units
  abbrev Known : P → Type 0
  Known p = (d : Seen P) × In d (all_seen v.own) × (d.at ≡ p)

  pub record Pair (a : CrossTop P) (b : CrossTop Q) : Type 0 where
    pub first : IsCrossTop (units_with_common v) a
    pub second : IsCrossTop (units_with_common w) b
    pub names : a.names ≡ b.names
    pub node : IsShown f a.node b.node
    pub below : AreShown f a.below b.below
    pub known : In (see a.node a.below) (all_seen v.own)
    pub known_below : (d : Seen P) → In d (seen a.below) → In d (all_seen v.own)

  pair_by : (u : DwUnit P) → In u v.own → u.kind ≡ Compile → (t : CrossTop P) → StandsUnder t.names t u.below → (b : CrossTop Q) → SeenTop (units_with_common w) b → b.names ≡ t.names → b.node.at ≡ f t.node.at → Pair t b
  pair_by u is kind t stands b s names at =
      let tops = top_among t.names t u.below stands in
      let all = top_seen t.names t u.below stands in
      let inner = λ (e : Seen P) (i : In e (seen_inside Compile u.below)). pairing.entries e (inner_in v.own u e is (subst (λ (k : Kind P). In e (seen_inside k u.below)) (sym kind) i)) in
      let same = one_below (units_with_common w) pairing.apart (see b.node b.below) (seen_map f (see t.node t.below)) s.here (inner (see t.node t.below) tops.0) at in
      let here = seen_shown f t.node t.below b.node b.below same in
      record {
        first = (u, in_all u is, subst (λ (k : Kind P). IsTopOf k u t) (sym kind) stands);
        second = s.top;
        names = sym names;
        node = here.0;
        below = tree_shown f (units_with_common w) pairing.apart t.below b.below here.1 (λ e i. inner e (tops.1 e i)) s.below;
        known = entry_seen v.own u (see t.node t.below) is all.0;
        known_below = λ d i. entry_seen v.own u d is (all.1 d i);
      }

  -- each top has an image
  image_top : (u : DwUnit P) → In u v.own → u.kind ≡ Compile → (x : DwUnit Q) → Same u x → (t : CrossTop P) → StandsUnder t.names t u.below → (b : CrossTop Q) × IsExpanded (units_with_common w) x b × Pair t b
  image_top u is kind x s t stands =
      let under = top_under t.names t u.below stands in
      let inside = inside_of u x s kind in
      let o = expanded_of (units_with_common w) x t.names (f t.node.at) ((inside.children t.names (f t.node.at)).1 (t.node, under.0, under.1, refl)) in
      (o.top, o.is, pair_by u is kind t stands o.top (expanded_seen (units_with_common w) x o.top s.there (kind_after u x Compile s kind) o.is) o.names_are o.at)

  -- and each top after is one
  top_of : (u : DwUnit P) → In u v.own → u.kind ≡ Compile → (x : DwUnit Q) → Same u x → (b : CrossTop Q) → IsExpanded (units_with_common w) x b → (t : CrossTop P) × StandsUnder t.names t u.below × Pair t b
  top_of u is kind x s b ex =
      let inside = inside_of u x s kind in
      let image = (inside.children b.names b.node.at).0 (expands_to (units_with_common w) x b ex) in
      let o = top_from b.names image.0 u.below image.1 image.2 in
      let t = top_at b.names image.0 o.0 in
      (t, o.1 b.names, pair_by u is kind t (o.1 b.names) b (expanded_seen (units_with_common w) x b s.there (kind_after u x Compile s kind) ex) refl (sym image.3))

  type_pair : (u : DwUnit P) → In u v.own → (signature : ℕ) (main : P) → u.kind ≡ OfType signature main → (x : DwUnit Q) → Same u x → Pair (type_top u) (type_top x)
  type_pair u is signature main kind x s =
      let same = one_root (units_with_common w) pairing.apart (see x.root x.below) (seen_map f (see u.root u.below)) (root_in (units_with_common w) x s.there) (pairing.types u signature main is kind) s.root.at in
      let here = seen_shown f u.root u.below x.root x.below same in
      record {
        first = (u, in_all u is, subst (λ (k : Kind P). IsTopOf k u (type_top u)) (sym kind) (refl, refl, refl));
        second = (x, s.there, subst (λ (k : Kind Q). IsTopOf k x (type_top x)) (sym (kind_after u x (OfType signature main) s kind)) (refl, refl, refl));
        names = refl;
        node = here.0;
        below = tree_shown f (units_with_common w) pairing.apart u.below x.below here.1
            (λ e i. pairing.entries e (inner_in v.own u e is (subst (λ (k : Kind P). In e (seen_inside k u.below)) (sym kind) i)))
            (λ d i. seen_in (units_with_common w) x d s.there i);
        known = root_seen v.own u is;
        known_below = λ d i. entry_seen v.own u d is i;
      }

  -- ---- targets

  module _ (R : CrossTop P → CrossTop Q → Type 0) (holds : (a : CrossTop P) (b : CrossTop Q) → Pair a b → R a b) where
    abbrev Target : P → Type 0
    Target p = CrossTarget R v w p (f p)

    root_target : (u : DwUnit P) → In u v.own → (k : Kind P) → u.kind ≡ k → Target u.root.at
    root_target u is Compile e =
        let o = paired u is in
        Roots o.number (record { unit = u; nth = o.nth; kind = e; at = refl })
        (record { unit = o.other; nth = o.other_nth; kind = kind_after u o.other Compile o.related e; at = o.related.root.at })
    root_target u is (OfType s m) e =
        let o = paired u is in
        let p = type_pair u is s m e o.other o.related in
        InTops [] (type_top u) (type_top o.other) p.first p.second refl p.node.at (holds (type_top u) (type_top o.other) p)
    root_target u is Partial e = absurd (pairing.kinds u is (subst IsPartial (sym e) tt))

    place_target : (u : DwUnit P) → In u v.own → u.kind ≡ Compile → (p : P) → PlaceIn u.below p → Target p
    place_target u is kind p (InSpace names e s at) =
        let o = paired u is in
        let d = (inside_of u o.other o.related kind).spaces names e s in
        Spaces o.number names (record { unit = u; nth = o.nth; kind = kind; entry = e; space = s; at = at })
        (record { unit = o.other; nth = o.other_nth; kind = kind_after u o.other Compile o.related kind; entry = d.0; space = d.1; at = d.2.at ∙ ap f at })
    place_target u is kind p (InTop names e below stands path along_it) =
        let o = paired u is in
        let t = top_at names e below in
        let b = image_top u is kind o.other o.related t (stands names) in
        let pair = b.2 in
        InTops path t b.0 pair.first pair.second along_it (along_shown f path e below b.0.node b.0.below p pair.node pair.below along_it) (holds t b.0 pair)

    below_target : (u : DwUnit P) → In u v.own → (d : Seen P) → In d (seen u.below) → (k : Kind P) → u.kind ≡ k → Target d.at
    below_target u is d i Compile e = place_target u is e d.at (where_in u.below d i)
    below_target u is d i (OfType s m) e =
        let o = paired u is in
        let p = type_pair u is s m e o.other o.related in
        let a = path_to u.root u.below d.at (inr (along u.below d i)) in
        InTops a.0 (type_top u) (type_top o.other) p.first p.second a.1 (along_shown f a.0 u.root u.below o.other.root o.other.below d.at p.node p.below a.1) (holds (type_top u) (type_top o.other) p)
    below_target u is d i Partial e = absurd (pairing.kinds u is (subst IsPartial (sym e) tt))

    target : (p : P) → Known p → Target p
    target p (d, is, at) = subst Target at (elim (in_cases d (seen_roots v.own) (seen_below v.own) is) [
      | inl a ↦ (let o = root_from v.own d a in subst (λ (e : Seen P). Target e.at) o.is (root_target o.unit o.there o.unit.kind refl))
      | inr b ↦ (let o = seen_from v.own d b in below_target o.unit o.there d o.is o.unit.kind refl)
    ])

    refs_cross : (ps : List P) (qs : List Q) → qs ≡ map f ps → ((p : P) → In p ps → Known p) → CrossRefs R v w ps qs
    refs_cross [] [] e h = tt
    refs_cross [] (q ∷ qs) e h = absurd cc
    refs_cross (p ∷ ps) [] e h = absurd cc
    refs_cross (p ∷ ps) (q ∷ qs) e h =
        let first : f p ≡ q = cc in
        let rest : qs ≡ map f ps = cc in
        (subst (λ (x : Q). CrossTarget R v w p x) first (target p (h p (inl refl))), refs_cross ps qs rest (λ x is. h x (inr is)))

    attrs_cross : (xs : List (Attr P)) (ys : List (Attr Q)) → map named_value ys ≡ map (named_map f) (map named_value xs) → ((a : Named P) → In a (map named_value xs) → (p : P) → In p a.value.refs → Known p)
        → CrossAttrs R v w xs ys
    attrs_cross [] [] e h = tt
    attrs_cross [] (y ∷ ys) e h = absurd cc
    attrs_cross (x ∷ xs) [] e h = absurd cc
    attrs_cross (x ∷ xs) (y ∷ ys) e h =
        let first : named_value y ≡ named_map f (named_value x) = cc in
        let rest : map named_value ys ≡ map (named_map f) (map named_value xs) = cc in (
          sym (ap (λ (a : Named Q). a.name) first),
          sym (ap (λ (a : Named Q). a.value.plain) first),
          refs_cross x.value.refs y.value.refs (ap (λ (a : Named Q). a.value.refs) first) (λ p is. h (named_value x) (inl refl) p is),
          attrs_cross xs ys rest (λ a is. h a (inr is)),
        )

    -- an entry that is seen with these attributes
    node_cross : (e : Node P) (d : Node Q) (s : Seen P) → In s (all_seen v.own) → s.attrs ≡ map named_value e.attrs → IsShown f e d → CrossNode R v w e d
    node_cross e d s is same shown = record {
      tag = sym shown.tag;
      attrs = attrs_cross e.attrs d.attrs shown.attrs (λ a i p r. pairing.closed s a p is (subst (λ (l : List (Named P)). In a l) (sym same) i) r);
    }

    entries_cross : (g : Entries P) (h : Entries Q) → AreShown f g h → ((d : Seen P) → In d (seen g) → In d (all_seen v.own)) → CrossEntries R v w g h
    unfolding seen
    entries_cross End End s k = tt
    entries_cross End (Entry d h m) s k = absurd s
    entries_cross (Entry e g l) End s k = absurd s
    entries_cross (Entry e g l) (Entry d h m) s k = (
      node_cross e d (see e g) (k (see e g) (inl refl)) refl s.0,
      entries_cross g h s.1 (λ x i. k x (inr (in_left x (seen g) (seen l) i))),
      entries_cross l m s.2 (λ x i. k x (inr (in_right x (seen g) (seen l) i))),
    )

    pair_equal : (a : CrossTop P) (b : CrossTop Q) → Pair a b → CrossEqual R v w a b
    pair_equal a b p = record {
      names = p.names;
      node = node_cross a.node b.node (see a.node a.below) p.known refl p.node;
      below = entries_cross a.below b.below p.below p.known_below;
    }

  -- ---- looks

  pair_looks : (k : ℕ) (a : CrossTop P) (b : CrossTop Q) → Pair a b → CrossLook v w k a b
  unfolding CrossLook
  pair_looks zero a b p = tt
  pair_looks (suc k) a b p = pair_equal (CrossLook v w k) (pair_looks k) a b p

  pair_alike : (a : CrossTop P) (b : CrossTop Q) → Pair a b → CrossAlike v w a b
  pair_alike a b p = λ k. pair_looks k a b p

  alike_node : (e : Node P) (d : Node Q) (s : Seen P) → In s (all_seen v.own) → s.attrs ≡ map named_value e.attrs → IsShown f e d → CrossNode (CrossAlike v w) v w e d
  alike_node = node_cross (CrossAlike v w) pair_alike

  -- ---- units

  one_kind : (u : DwUnit P) → In u v.own → (x : DwUnit Q) → Same u x → (k : Kind P) → u.kind ≡ k → OneKind u x k x.kind
  one_kind u is x s Compile e = subst (λ (k : Kind Q). OneKind u x Compile k) (sym (kind_after u x Compile s e)) tt
  one_kind u is x s (OfType signature main) e =
      let p = type_pair u is signature main e x s in
      let there = pairing.mains u is signature main e in
      let a = path_to u.root u.below main (elim there [ inl r ↦ inl r | inr b ↦ inr (key_along u.below main b) ]) in
      subst (λ (k : Kind Q). OneKind u x (OfType signature main) k) (sym (kind_after u x (OfType signature main) s e))
      (refl, (a.0, a.1, along_shown f a.0 u.root u.below x.root x.below main p.node p.below a.1))
  one_kind u is x s Partial e = absurd (pairing.kinds u is (subst IsPartial (sym e) tt))

  types_alike : (u : DwUnit P) → In u v.own → (x : DwUnit Q) → Same u x → (k : Kind P) → u.kind ≡ k → TypesAlike v w u x k
  types_alike u is x s (OfType signature main) e = pair_alike (type_top u) (type_top x) (type_pair u is signature main e x s)
  types_alike u is x s Compile e = tt
  types_alike u is x s Partial e = tt

  -- an entry of the file imports no partial unit
  no_import : (e : Node P) (s : Seen P) → In s (all_seen v.own) → s.attrs ≡ map named_value e.attrs → (p : DwUnit P) → IsImport (units_with_common v) e p → ⊥
  no_import e s there same p i = elim (in_cases p v.own v.common i.unit) [
    | inl a ↦ pairing.kinds p a i.partial
    | inr b ↦
        let o = pairing.closed s _ p.root.at there (subst (λ (l : List (Named P)). In (record { name = 0x18; value = ref p.root.at }) l) (sym same) i.names) (inl refl) in
        pairing.apart_from p o.0 b o.1 o.2
  ]

  spaces_alike : (u : DwUnit P) → In u v.own → u.kind ≡ Compile → (x : DwUnit Q) → Same u x → SpacesAlike v w u x
  spaces_alike u is kind x s =
      let inside = inside_of u x s kind in
      record {
        spaces = λ names d h. (
            let o = inside.spaces names d h in
            let k = entry_under v.own u h.outer d is h.under in
            (o.0, o.1, alike_node d o.0 k.entry k.there k.attrs_are o.2));
        no_more = λ names e h. (
            let o = inside.no_more names e h in
            let k = entry_under v.own u o.1.outer o.0 is o.1.under in
            (o.0, o.1, alike_node o.0 e k.entry k.there k.attrs_are o.2));
        tops = λ a ex. elim ex [
          | inl c ↦ (let o = image_top u is kind x s a c.0 in (o.0, o.1, o.2.names, pair_alike a o.0 o.2))
          | inr c ↦ (let k = child_seen c.0 u.below c.2 in absurd (no_import c.0 (see c.0 k.0) (entry_seen v.own u (see c.0 k.0) is k.1) refl c.1 c.3))
        ];
        others = λ b ex. (let o = top_of u is kind x s b ex in (o.0, inl (o.1, no_import o.0.node (see o.0.node o.0.below) o.2.known refl), o.2.names, pair_alike o.0 b o.2));
      }

  inside_alike : (u : DwUnit P) → In u v.own → (x : DwUnit Q) → Same u x → (k : Kind P) → u.kind ≡ k → InCompile k (SpacesAlike v w u x)
  inside_alike u is x s Compile e = spaces_alike u is e x s
  inside_alike u is x s (OfType signature main) e = tt
  inside_alike u is x s Partial e = tt

  units_alike : (u : DwUnit P) (x : DwUnit Q) → In u v.own → Same u x → UnitsAlike v w u x
  units_alike u x is s = record {
    kind = one_kind u is x s u.kind refl;
    root = alike_node u.root x.root (see u.root u.below) (root_seen v.own u is) refl s.root;
    types = types_alike u is x s u.kind refl;
    inside = inside_alike u is x s u.kind refl;
  }

  pub cross_same : CrossSame v w
  cross_same = subst (λ (us : List (DwUnit P)). EachTwo (UnitsAlike v w) us (whole_units w.own)) (sym (whole_same v.own pairing.kinds))
      (two_more Same (UnitsAlike v w) v.own (whole_units w.own) units_alike pairing.units)
