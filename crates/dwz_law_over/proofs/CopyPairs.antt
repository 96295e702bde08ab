-- A file, and one that is the same by names, where one name may stand for several entries, copies of each other: the two mean the same.
use Rattle.std.proofs.Common.{◌≡◌, ℕ, List, [], ◌∷◌, map, refl, sym, ap, subst, ◌∙◌, inl, inr}
use Rattle.dwz_def_reading.specs.Documents.{Attr, Compile, DwUnit, Entries, Kind, Node, OfType, Partial, kind_map, ref}
use Rattle.dwz_def_reading.specs.Lists.{In}
use Rattle.dwz_def_reading.specs.Trees.{End, Entry}
use Rattle.dwz_def_reading.proofs.ListFacts.{in_cases, in_left, in_map, in_right}
use Rattle.dwz_def_tops.specs.Seen.{Closed, EntriesSame, InCompile, InsideSame, IsImport, IsPartial, Named, Seen, TypesSame, UnitSame}
use Rattle.dwz_def_tops.specs.Seen.{all_seen, named_map, named_value, see, seen, seen_below, seen_inside, seen_map, seen_roots}
use Rattle.dwz_def_tops.specs.Shown.{HaveMains, IsShownUnit, UnitsShown}
use Rattle.dwz_def_tops.specs.Spaces.{IsSpace}
use Rattle.dwz_def_tops.proofs.SeenLemmas.{child_seen, entry_seen, root_from, root_seen, seen_from}
use Rattle.dwz_def_tops.proofs.ShownLemmas.{all_shown, entry_under, space_from, space_to}
use Rattle.dwz_def_cross.specs.Tops.{CrossTop, IsCrossTop, IsExpanded, IsTopOf, StandsIn, StandsUnder, WithCommon, type_top, units_with_common, whole_units}
use Rattle.dwz_def_cross.specs.CrossLook.{CrossAlike, CrossAttrs, CrossEntries, CrossEqual, CrossNode, CrossRefs, CrossTarget, InTops, Roots, Spaces}
use Rattle.dwz_def_cross.specs.CrossSame.{CrossSame, EachTwo, OneKind, SpacesAlike, TypesAlike, UnitsAlike}
use Rattle.dwz_def_cross.proofs.CrossLemmas.{Paired}
use Rattle.dwz_def_cross.proofs.KeptLemmas.{kept_alike}
use Rattle.dwz_def_cross.proofs.TopPlaces.{InSpace, InTop, PlaceIn, along, key_along, path_to, top_among, top_at, top_from, top_seen, top_under, where_in}
use Rattle.dwz_law_over.proofs.CopyImports.{KnownIn, expanded_down, expanded_up}
use Rattle.dwz_law_over.proofs.CopyShown.{EntriesMeet, NodesMeet, along_known, along_meet, compile_was, meet_by, seen_meet, tree_meet, type_was}
use Rattle.dwz_law_over.proofs.CopyTops.{cross_seen, expanded_of, expanded_top, expands_to, inner_in, key_seen, two_more, two_of, under_known, whole_same}

-- a unit after is one before, by names
pub record Meets {P Q K : Type 0} (f : P → K) (e : Q → K) (after : List (DwUnit Q)) (mids : List (DwUnit K)) (u : DwUnit P) (x : DwUnit Q) : Type 0 where
  pub mid : DwUnit K
  pub same : UnitSame f mids u mid
  pub shown : IsShownUnit e x mid
  pub there : In x after

-- a place stands along the path in a top with the name of that one
pub record CopyOfTop {P Q K : Type 0} (f : P → K) (e : Q → K) (after : List (DwUnit Q)) (t : CrossTop P) (path : List ℕ) (q : Q) : Type 0 where
  pub top : CrossTop Q
  pub is : IsCrossTop after top
  pub stands : StandsIn path top q
  pub at : e top.node.at ≡ f t.node.at
  pub names_are : top.names ≡ t.names

-- A file without partial units, each of whose references names an entry of it, so that it names no root of a supplementary file; and a file
-- that is the same by names, unit for unit, with the supplementary file that it refers to. What has one name is seen the same; and of names
-- of a kind, such as those of roots and of spaces, each is that of one entry. What has the name of an entry in a top stands along the same
-- path in a top with that one's name and name list, which some top has.
pub record IsCopyPairing {P Q K : Type 0} (Single : K → Type 0) (f : P → K) (e : Q → K) (v : WithCommon P) (w : WithCommon Q) (mids : List (DwUnit K)) : Type 0 where
  pub apart_from : (u : DwUnit P) (d : Seen P) → In u v.common → In d (all_seen v.own) → d.at ≡ u.root.at → ⊥
  pub kinds : (u : DwUnit P) → In u v.own → IsPartial u.kind → ⊥
  pub closed : Closed v.own
  pub mains : HaveMains v.own
  pub shown : UnitsShown e (units_with_common w) mids
  pub closed_after : Closed (units_with_common w)
  pub mains_after : HaveMains (units_with_common w)
  pub entries : EntriesSame f v.own mids
  pub types : TypesSame f v.own mids
  pub units : EachTwo (Meets f e (units_with_common w) mids) v.own (whole_units w.own)
  pub once : (a b : Seen K) → In a (all_seen mids) → In b (all_seen mids) → a.at ≡ b.at → a ≡ b
  pub single : (p q : Q) → KnownIn (units_with_common w) p → KnownIn (units_with_common w) q → Single (e p) → e p ≡ e q → p ≡ q
  pub root_single : (u : DwUnit P) → In u v.own → Single (f u.root.at)
  pub space_single : (u : DwUnit P) → In u v.own → u.kind ≡ Compile → (names : List (List ℕ)) (d : Node P) → IsSpace names d u.below → Single (f d.at)
  pub type_single : (u : DwUnit P) → In u v.own → (signature : ℕ) (main : P) → u.kind ≡ OfType signature main → (d : Seen P) → In d (seen u.below) → Single (f d.at)
  pub partial_single : (x : DwUnit Q) → In x (units_with_common w) → IsPartial x.kind → Single (e x.root.at)
  pub tops : (u : DwUnit P) → In u v.own → u.kind ≡ Compile → (t : CrossTop P) → StandsUnder t.names t u.below → (path : List ℕ) (p : P) → StandsIn path t p → (q : Q)
      → KnownIn (units_with_common w) q → e q ≡ f p → (b : CrossTop Q) → IsCrossTop (units_with_common w) b → b.names ≡ t.names → e b.node.at ≡ f t.node.at
      → CopyOfTop f e (units_with_common w) t path q

module _ {P Q K : Type 0} (Single : K → Type 0) (f : P → K) (e : Q → K) (v : WithCommon P) (w : WithCommon Q) (mids : List (DwUnit K)) (pairing : IsCopyPairing Single f e v w mids) where
  abbrev after : List (DwUnit Q)
  after = units_with_common w

  abbrev Same : DwUnit P → DwUnit Q → Type 0
  Same = Meets f e (units_with_common w) mids

  in_all : (u : DwUnit P) → In u v.own → In u (units_with_common v)
  in_all u h = in_left u v.own v.common h

  paired : (u : DwUnit P) → In u v.own → Paired Same 0 (whole_units v.own) (whole_units w.own) u
  paired u is =
      let whole = whole_same v.own pairing.kinds in
      two_of Same 0 (whole_units v.own) (whole_units w.own) (subst (λ (us : List (DwUnit P)). EachTwo Same us (whole_units w.own)) (sym whole) pairing.units) u
      (subst (λ (us : List (DwUnit P)). In u us) (sym whole) is)

  inside_of : (u : DwUnit P) (x : DwUnit Q) → (s : Same u x) → u.kind ≡ Compile → InsideSame f mids u s.mid
  inside_of u x s kind = subst (λ (k : Kind P). InCompile k (InsideSame f mids u s.mid)) kind s.same.inside

  kind_by : (u : DwUnit P) (x : DwUnit Q) (k : Kind P) → Same u x → u.kind ≡ k → kind_map e x.kind ≡ kind_map f k
  kind_by u x k s kind = sym s.shown.kind ∙ s.same.kind ∙ ap (kind_map f) kind

  kind_compile : (u : DwUnit P) (x : DwUnit Q) → Same u x → u.kind ≡ Compile → x.kind ≡ Compile
  kind_compile u x s kind = compile_was e x.kind (kind_by u x Compile s kind)

  root_at : (u : DwUnit P) (x : DwUnit Q) → Same u x → e x.root.at ≡ f u.root.at
  root_at u x s = sym s.shown.root.at ∙ s.same.root.at

  roots_apart : (p : Q) (x : DwUnit Q) → KnownIn (units_with_common w) p → In x (units_with_common w) → IsPartial x.kind → e p ≡ e x.root.at → p ≡ x.root.at
  roots_apart p x known there partial same =
      sym (pairing.single x.root.at p (see x.root x.below, root_seen after x there, refl) known (pairing.partial_single x there partial) (sym same))

  -- what is seen after has its names among what stands between
  named_in : (d : Seen Q) → In d (all_seen (units_with_common w)) → In (seen_map e d) (all_seen mids)
  named_in d is = subst (In (seen_map e d)) (sym (all_shown e after mids pairing.shown)) (in_map (seen_map e) d (all_seen after) is)

  image_in_mids : (u : DwUnit P) → In u v.own → (d : Seen P) → In d (seen_inside u.kind u.below) → In (seen_map f d) (all_seen mids)
  image_in_mids u is d i = in_right (seen_map f d) (seen_roots mids) (seen_below mids) (pairing.entries d (inner_in v.own u d is i))

  pub record Pair (a : CrossTop P) (b : CrossTop Q) : Type 0 where
    pub first : IsCrossTop (units_with_common v) a
    pub second : IsCrossTop (units_with_common w) b
    pub names : a.names ≡ b.names
    pub node : NodesMeet f e a.node b.node
    pub below : EntriesMeet f e a.below b.below
    pub known : In (see a.node a.below) (all_seen v.own)
    pub known_below : (d : Seen P) → In d (seen a.below) → In d (all_seen v.own)

  pair_by : (u : DwUnit P) → In u v.own → u.kind ≡ Compile → (t : CrossTop P) → StandsUnder t.names t u.below → (b : CrossTop Q) → IsCrossTop (units_with_common w) b → b.names ≡ t.names
      → e b.node.at ≡ f t.node.at → Pair t b
  pair_by u is kind t stands b top names at =
      let tops = top_among t.names t u.below stands in
      let all = top_seen t.names t u.below stands in
      let s = cross_seen after b top in
      let inner = λ (d : Seen P) (i : In d (seen_inside Compile u.below)). image_in_mids u is d (subst (λ (k : Kind P). In d (seen_inside k u.below)) (sym kind) i) in
      let same = pairing.once (seen_map e (see b.node b.below)) (seen_map f (see t.node t.below)) (named_in (see b.node b.below) s.here) (inner (see t.node t.below) tops.0) at in
      let here = seen_meet f e t.node t.below b.node b.below same in
      record {
        first = (u, in_all u is, subst (λ (k : Kind P). IsTopOf k u t) (sym kind) stands);
        second = top;
        names = sym names;
        node = here.0;
        below = tree_meet f e (all_seen mids) pairing.once t.below b.below here.1 (λ d i. inner d (tops.1 d i)) (λ d i. named_in d (s.below d i));
        known = entry_seen v.own u (see t.node t.below) is all.0;
        known_below = λ d i. entry_seen v.own u d is (all.1 d i);
      }

  -- each top has an image
  image_top : (u : DwUnit P) → In u v.own → u.kind ≡ Compile → (x : DwUnit Q) → Same u x → (t : CrossTop P) → StandsUnder t.names t u.below → (b : CrossTop Q) × IsExpanded (units_with_common w) x b × Pair t b
  image_top u is kind x s t stands =
      let under = top_under t.names t u.below stands in
      let inside = inside_of u x s kind in
      let expands = (inside.children t.names (f t.node.at)).1 (t.node, under.0, under.1, refl) in
      let d = expanded_down e after mids pairing.shown pairing.closed_after roots_apart x s.there s.mid s.shown t.names (f t.node.at) expands in
      let o = expanded_of after x t.names d.0 d.1 in
      (o.top, o.is, pair_by u is kind t stands o.top (expanded_top after x o.top s.there (kind_compile u x s kind) o.is) o.names_are (ap e o.at ∙ d.2))

  -- and each top after is one
  top_of : (u : DwUnit P) → In u v.own → u.kind ≡ Compile → (x : DwUnit Q) → Same u x → (b : CrossTop Q) → IsExpanded (units_with_common w) x b → (t : CrossTop P) × StandsUnder t.names t u.below × Pair t b
  top_of u is kind x s b ex =
      let inside = inside_of u x s kind in
      let up = expanded_up e after mids pairing.shown pairing.closed_after roots_apart x s.there s.mid s.shown b.names b.node.at (expands_to after x b ex) in
      let image = (inside.children b.names (e b.node.at)).0 up in
      let o = top_from b.names image.0 u.below image.1 image.2 in
      let t = top_at b.names image.0 o.0 in
      (t, o.1 b.names, pair_by u is kind t (o.1 b.names) b (expanded_top after x b s.there (kind_compile u x s kind) ex) refl (sym image.3))

  type_pair : (u : DwUnit P) → In u v.own → (signature : ℕ) (main : P) → u.kind ≡ OfType signature main → (x : DwUnit Q) → Same u x → Pair (type_top u) (type_top x)
  type_pair u is signature main kind x s =
      let there = in_left (seen_map f (see u.root u.below)) (seen_roots mids) (seen_below mids) (pairing.types u signature main is kind) in
      let same = pairing.once (seen_map e (see x.root x.below)) (seen_map f (see u.root u.below)) (named_in (see x.root x.below) (root_seen after x s.there)) there (root_at u x s) in
      let here = seen_meet f e u.root u.below x.root x.below same in
      let after_kind = type_was e x.kind signature (f main) (kind_by u x (OfType signature main) s kind) in
      record {
        first = (u, in_all u is, subst (λ (k : Kind P). IsTopOf k u (type_top u)) (sym kind) (refl, refl, refl));
        second = (x, s.there, subst (λ (k : Kind Q). IsTopOf k x (type_top x)) (sym after_kind.1) (refl, refl, refl));
        names = refl;
        node = here.0;
        below = tree_meet f e (all_seen mids) pairing.once u.below x.below here.1
            (λ d i. image_in_mids u is d (subst (λ (k : Kind P). In d (seen_inside k u.below)) (sym kind) i))
            (λ d i. named_in d (entry_seen after x d s.there i));
        known = root_seen v.own u is;
        known_below = λ d i. entry_seen v.own u d is i;
      }

  -- a place along a path in a pair of tops, and one with its name
  along_one : (path : List ℕ) (a : CrossTop P) (b : CrossTop Q) (p : P) (q : Q) → Pair a b → StandsIn path a p → KnownIn (units_with_common w) q → Single (f p) → e q ≡ f p → StandsIn path b q
  along_one path a b p q pair stands known single same =
      let o = along_meet f e path a.node a.below b.node b.below p pair.node pair.below stands in
      let s = cross_seen after b pair.second in
      let one = pairing.single o.0 q (along_known (all_seen after) path b.node b.below o.0 s.here s.below o.1) known (subst Single (sym o.2) single) (o.2 ∙ sym same) in
      subst (λ (x : Q). StandsIn path b x) one o.1

  -- ---- targets

  module _ (R : CrossTop P → CrossTop Q → Type 0) (holds : (a : CrossTop P) (b : CrossTop Q) → Pair a b → R a b) where
    abbrev Target : P → Q → Type 0
    Target p q = CrossTarget R v w p q

    root_target : (u : DwUnit P) → In u v.own → (k : Kind P) → u.kind ≡ k → (q : Q) → KnownIn (units_with_common w) q → e q ≡ f u.root.at → Target u.root.at q
    root_target u is Compile kind q known same =
        let o = paired u is in
        let x = o.other in
        let at = root_at u x o.related in
        let one = pairing.single x.root.at q (see x.root x.below, root_seen after x o.related.there, refl) known (subst Single (sym at) (pairing.root_single u is)) (at ∙ sym same) in
        Roots o.number (record { unit = u; nth = o.nth; kind = kind; at = refl })
        (record { unit = x; nth = o.other_nth; kind = kind_compile u x o.related kind; at = one })
    root_target u is (OfType s m) kind q known same =
        let o = paired u is in
        let p = type_pair u is s m kind o.other o.related in
        InTops [] (type_top u) (type_top o.other) p.first p.second refl (along_one [] (type_top u) (type_top o.other) u.root.at q p refl known (pairing.root_single u is) same)
        (holds (type_top u) (type_top o.other) p)
    root_target u is Partial kind q known same = absurd (pairing.kinds u is (subst IsPartial (sym kind) tt))

    place_target : (u : DwUnit P) → In u v.own → u.kind ≡ Compile → (p : P) → PlaceIn u.below p → (q : Q) → KnownIn (units_with_common w) q → e q ≡ f p → Target p q
    place_target u is kind p (InSpace names d s at) q known same =
        let o = paired u is in
        let x = o.other in
        let m = (inside_of u x o.related kind).spaces names d s in
        let y = space_from e names x.below o.related.mid.below o.related.shown.below m.0 m.1 in
        let seen_y = under_known y.1.outer y.0 x.below y.1.under in
        let y_at : e y.0.at ≡ f d.at = sym y.2.at ∙ m.2.at in
        let one = pairing.single y.0.at q (see y.0 seen_y.0, entry_seen after x (see y.0 seen_y.0) o.related.there seen_y.1, refl {a = y.0.at}) known
        (subst Single (sym y_at) (pairing.space_single u is kind names d s)) (y_at ∙ ap f at ∙ sym same) in
        Spaces o.number names (record { unit = u; nth = o.nth; kind = kind; entry = d; space = s; at = at })
        (record { unit = x; nth = o.other_nth; kind = kind_compile u x o.related kind; entry = y.0; space = y.1; at = one })
    place_target u is kind p (InTop names d below stands path along_it) q known same =
        let t = top_at names d below in
        let o = paired u is in
        let b = image_top u is kind o.other o.related t (stands names) in
        let c = pairing.tops u is kind t (stands names) path p along_it q known same b.0 b.2.second (sym b.2.names) b.2.node.at in
        let pair = pair_by u is kind t (stands names) c.top c.is c.names_are c.at in
        InTops path t c.top pair.first pair.second along_it c.stands (holds t c.top pair)

    below_target : (u : DwUnit P) → In u v.own → (d : Seen P) → In d (seen u.below) → (k : Kind P) → u.kind ≡ k → (q : Q) → KnownIn (units_with_common w) q → e q ≡ f d.at → Target d.at q
    below_target u is d i Compile kind q known same = place_target u is kind d.at (where_in u.below d i) q known same
    below_target u is d i (OfType s m) kind q known same =
        let o = paired u is in
        let p = type_pair u is s m kind o.other o.related in
        let a = path_to u.root u.below d.at (inr (along u.below d i)) in
        InTops a.0 (type_top u) (type_top o.other) p.first p.second a.1
        (along_one a.0 (type_top u) (type_top o.other) d.at q p a.1 known (pairing.type_single u is s m kind d i) same)
        (holds (type_top u) (type_top o.other) p)
    below_target u is d i Partial kind q known same = absurd (pairing.kinds u is (subst IsPartial (sym kind) tt))

    target : (p : P) (q : Q) → KnownIn v.own p → KnownIn (units_with_common w) q → e q ≡ f p → Target p q
    target p q (d, is, at) known same =
        let here : e q ≡ f d.at = same ∙ ap f (sym at) in
        subst (λ (x : P). Target x q) at (elim (in_cases d (seen_roots v.own) (seen_below v.own) is) [
          | inl a ↦ (
              let o = root_from v.own d a in
              let root : e q ≡ f o.unit.root.at = here ∙ ap (λ (s : Seen P). f s.at) (sym o.is) in
              subst (λ (s : Seen P). Target s.at q) o.is (root_target o.unit o.there o.unit.kind refl q known root))
          | inr b ↦ (let o = seen_from v.own d b in below_target o.unit o.there d o.is o.unit.kind refl q known here)
        ])

    refs_cross : (ps : List P) (qs : List Q) → map e qs ≡ map f ps → ((p : P) → In p ps → KnownIn v.own p) → ((q : Q) → In q qs → KnownIn (units_with_common w) q) → CrossRefs R v w ps qs
    refs_cross [] [] same h k = tt
    refs_cross [] (q ∷ qs) same h k = absurd cc
    refs_cross (p ∷ ps) [] same h k = absurd cc
    refs_cross (p ∷ ps) (q ∷ qs) same h k =
        let first : e q ≡ f p = cc in
        let rest : map e qs ≡ map f ps = cc in
        (target p q (h p (inl refl)) (k q (inl refl)) first, refs_cross ps qs rest (λ x is. h x (inr is)) (λ x is. k x (inr is)))

    attrs_cross : (xs : List (Attr P)) (ys : List (Attr Q)) → map (named_map e) (map named_value ys) ≡ map (named_map f) (map named_value xs)
        → ((a : Named P) → In a (map named_value xs) → (p : P) → In p a.value.refs → KnownIn v.own p)
        → ((a : Named Q) → In a (map named_value ys) → (q : Q) → In q a.value.refs → KnownIn (units_with_common w) q) → CrossAttrs R v w xs ys
    attrs_cross [] [] same h k = tt
    attrs_cross [] (y ∷ ys) same h k = absurd cc
    attrs_cross (x ∷ xs) [] same h k = absurd cc
    attrs_cross (x ∷ xs) (y ∷ ys) same h k =
        let first : named_map e (named_value y) ≡ named_map f (named_value x) = cc in
        let rest : map (named_map e) (map named_value ys) ≡ map (named_map f) (map named_value xs) = cc in (
          sym (ap (λ (a : Named K). a.name) first),
          sym (ap (λ (a : Named K). a.value.plain) first),
          refs_cross x.value.refs y.value.refs (ap (λ (a : Named K). a.value.refs) first) (λ p is. h (named_value x) (inl refl) p is) (λ q is. k (named_value y) (inl refl) q is),
          attrs_cross xs ys rest (λ a is. h a (inr is)) (λ a is. k a (inr is)),
        )

    -- entries that are seen with these attributes
    node_cross : (n : Node P) (d : Node Q) (s : Seen P) (t : Seen Q) → In s (all_seen v.own) → s.attrs ≡ map named_value n.attrs → In t (all_seen (units_with_common w)) → t.attrs ≡ map named_value d.attrs
        → NodesMeet f e n d → CrossNode R v w n d
    node_cross n d s t is same there same_after meet = record {
      tag = sym meet.tag;
      attrs = attrs_cross n.attrs d.attrs meet.attrs (λ a i p r. pairing.closed s a p is (subst (λ (l : List (Named P)). In a l) (sym same) i) r)
          (λ a i q r. pairing.closed_after t a q there (subst (λ (l : List (Named Q)). In a l) (sym same_after) i) r);
    }

    entries_cross : (g : Entries P) (h : Entries Q) → EntriesMeet f e g h → ((d : Seen P) → In d (seen g) → In d (all_seen v.own)) → ((d : Seen Q) → In d (seen h) → In d (all_seen (units_with_common w)))
        → CrossEntries R v w g h
    unfolding seen
    entries_cross End End s k l = tt
    entries_cross End (Entry d h m) s k l = absurd s
    entries_cross (Entry n g o) End s k l = absurd s
    entries_cross (Entry n g o) (Entry d h m) s k l = (
      node_cross n d (see n g) (see d h) (k (see n g) (inl refl)) refl (l (see d h) (inl refl)) refl s.0,
      entries_cross g h s.1 (λ x i. k x (inr (in_left x (seen g) (seen o) i))) (λ x i. l x (inr (in_left x (seen h) (seen m) i))),
      entries_cross o m s.2 (λ x i. k x (inr (in_right x (seen g) (seen o) i))) (λ x i. l x (inr (in_right x (seen h) (seen m) i))),
    )

    pair_equal : (a : CrossTop P) (b : CrossTop Q) → Pair a b → CrossEqual R v w a b
    pair_equal a b p =
        let s = cross_seen after b p.second in
        record {
          names = p.names;
          node = node_cross a.node b.node (see a.node a.below) (see b.node b.below) p.known refl s.here refl p.node;
          below = entries_cross a.below b.below p.below p.known_below s.below;
        }

  -- looks of every depth find a pair equal
  pub pair_alike : (a : CrossTop P) (b : CrossTop Q) → Pair a b → CrossAlike v w a b
  pair_alike a b p = kept_alike Pair v w (pair_equal Pair (λ x y q. q)) a b p

  -- ---- units

  alike_node : (n : Node P) (d : Node Q) (s : Seen P) (t : Seen Q) → In s (all_seen v.own) → s.attrs ≡ map named_value n.attrs → In t (all_seen (units_with_common w)) → t.attrs ≡ map named_value d.attrs
      → NodesMeet f e n d → CrossNode (CrossAlike v w) v w n d
  alike_node = node_cross (CrossAlike v w) pair_alike

  -- the type of a type unit has a name of that kind
  main_single : (u : DwUnit P) → In u v.own → (signature : ℕ) (main : P) → u.kind ≡ OfType signature main → Single (f main)
  main_single u is signature main kind = elim (pairing.mains u is signature main kind) [
    | inl r ↦ subst (λ (p : P). Single (f p)) r (pairing.root_single u is)
    | inr b ↦ (let o = key_seen u.below main b in subst (λ (p : P). Single (f p)) o.2 (pairing.type_single u is signature main kind o.0 o.1))
  ]

  one_kind : (u : DwUnit P) → In u v.own → (x : DwUnit Q) → Same u x → (k : Kind P) → u.kind ≡ k → OneKind u x k x.kind
  one_kind u is x s Compile kind = subst (λ (k : Kind Q). OneKind u x Compile k) (sym (kind_compile u x s kind)) tt
  one_kind u is x s (OfType signature main) kind =
      let p = type_pair u is signature main kind x s in
      let a = path_to u.root u.below main (elim (pairing.mains u is signature main kind) [ inl r ↦ inl r | inr b ↦ inr (key_along u.below main b) ]) in
      let k = type_was e x.kind signature (f main) (kind_by u x (OfType signature main) s kind) in
      let there : (d : Seen Q) × In d (all_seen after) × (d.at ≡ k.0) =
      elim (pairing.mains_after x s.there signature k.0 k.1) [
        | inl r ↦ (see x.root x.below, root_seen after x s.there, r)
        | inr b ↦ (let o = key_seen x.below k.0 b in (o.0, entry_seen after x o.0 s.there o.1, o.2))
      ] in
      subst (λ (l : Kind Q). OneKind u x (OfType signature main) l) (sym k.1)
      (refl, (a.0, a.1, along_one a.0 (type_top u) (type_top x) main k.0 p a.1 there (main_single u is signature main kind) k.2))
  one_kind u is x s Partial kind = absurd (pairing.kinds u is (subst IsPartial (sym kind) tt))

  types_alike : (u : DwUnit P) → In u v.own → (x : DwUnit Q) → Same u x → (k : Kind P) → u.kind ≡ k → TypesAlike v w u x k
  types_alike u is x s (OfType signature main) kind = pair_alike (type_top u) (type_top x) (type_pair u is signature main kind x s)
  types_alike u is x s Compile kind = tt
  types_alike u is x s Partial kind = tt

  -- an entry of the file imports no partial unit
  no_import : (n : Node P) (s : Seen P) → In s (all_seen v.own) → s.attrs ≡ map named_value n.attrs → (p : DwUnit P) → IsImport (units_with_common v) n p → ⊥
  no_import n s there same p i = elim (in_cases p v.own v.common i.unit) [
    | inl a ↦ pairing.kinds p a i.partial
    | inr b ↦
        let o = pairing.closed s _ p.root.at there (subst (λ (l : List (Named P)). In (record { name = 0x18; value = ref p.root.at }) l) (sym same) i.names) (inl refl) in
        pairing.apart_from p o.0 b o.1 o.2
  ]

  spaces_alike : (u : DwUnit P) → In u v.own → u.kind ≡ Compile → (x : DwUnit Q) → Same u x → SpacesAlike v w u x
  spaces_alike u is kind x s =
      let inside = inside_of u x s kind in
      record {
        spaces = λ names d h. (
            let m = inside.spaces names d h in
            let y = space_from e names x.below s.mid.below s.shown.below m.0 m.1 in
            let k = entry_under v.own u h.outer d is h.under in
            let l = entry_under after x y.1.outer y.0 s.there y.1.under in
            (y.0, y.1, alike_node d y.0 k.entry l.entry k.there k.attrs_are l.there l.attrs_are (meet_by f e d y.0 m.0 m.2 y.2)));
        no_more = λ names y h. (
            let m = space_to e names x.below s.mid.below s.shown.below y h in
            let d = inside.no_more names m.0 m.1 in
            let k = entry_under v.own u d.1.outer d.0 is d.1.under in
            let l = entry_under after x h.outer y s.there h.under in
            (d.0, d.1, alike_node d.0 y k.entry l.entry k.there k.attrs_are l.there l.attrs_are (meet_by f e d.0 y m.0 d.2 m.2)));
        tops = λ a ex. elim ex [
          | inl c ↦ (let o = image_top u is kind x s a c.0 in (o.0, o.1, o.2.names, pair_alike a o.0 o.2))
          | inr c ↦ (let k = child_seen c.0 u.below c.2 in absurd (no_import c.0 k.0 (entry_seen v.own u k.0 is k.1) k.2 c.1 c.3))
        ];
        others = λ b ex. (let o = top_of u is kind x s b ex in (o.0, inl (o.1, no_import o.0.node (see o.0.node o.0.below) o.2.known refl), o.2.names, pair_alike o.0 b o.2));
      }

  inside_alike : (u : DwUnit P) → In u v.own → (x : DwUnit Q) → Same u x → (k : Kind P) → u.kind ≡ k → InCompile k (SpacesAlike v w u x)
  inside_alike u is x s Compile kind = spaces_alike u is kind x s
  inside_alike u is x s (OfType signature main) kind = tt
  inside_alike u is x s Partial kind = tt

  units_alike : (u : DwUnit P) (x : DwUnit Q) → In u v.own → Same u x → UnitsAlike v w u x
  units_alike u x is s = record {
    kind = one_kind u is x s u.kind refl;
    root = alike_node u.root x.root (see u.root u.below) (see x.root x.below) (root_seen v.own u is) refl (root_seen after x s.there) refl (meet_by f e u.root x.root s.mid.root s.same.root s.shown.root);
    types = types_alike u is x s u.kind refl;
    inside = inside_alike u is x s u.kind refl;
  }

  pub copies_same : CrossSame v w
  copies_same = subst (λ (us : List (DwUnit P)). EachTwo (UnitsAlike v w) us (whole_units w.own)) (sym (whole_same v.own pairing.kinds))
      (two_more Same (UnitsAlike v w) v.own (whole_units w.own) units_alike pairing.units)
