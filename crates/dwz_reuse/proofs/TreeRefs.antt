-- What trees refer into: by own numbers, and by those of looks across files.
use Rattle.std.proofs.Common.{◌≡◌, ℕ, List, [], ◌∷◌, ◌++◌, map, Option, Some, None, refl, sym, ap, subst, ◌∙◌, inl, inr, ⊎_elim}
use Rattle.std.specs.List.{flat_map}
use Rattle.dwz_model.proofs.ListFacts.{in_cases, in_left, in_right}
use Rattle.dwz_def_reading.specs.Documents.{Attr, Entries, attr_map, entries_map, node_map}
use Rattle.dwz_def_reading.specs.Lists.{Each, In}
use Rattle.dwz_def_reading.specs.Trees.{End, Entry}
use Rattle.dwz_def_tops.specs.Spots.{EntryName, Import, InChain, InType, PartialOf, PartialRoot, RootOf, SpaceAt, Top, UnitOf, Within}
use Rattle.dwz_def_tops.specs.Targets.{attrs_into, entries_into, refs_into, targets_of}
use Rattle.dwz_def_cross.specs.Tops.{CrossTop}
use Rattle.dwz_def_check.specs.CrossLabels.{cross_entries_targets, cross_targets, cross_top_map, lone_targets, names_into}
use Rattle.dwz_def_check.specs.CrossNames.{AtPath, CrossName, PartRoot, PartSpace, WholeRoot, WholeSpace}
use Rattle.dwz_graph.specs.Names.{top_in}
use Rattle.dwz_match.proofs.BareTops.{cross_of}
use Rattle.dwz_reuse.specs.Refers.{own_at, own_of}

abbrev one : Option ℕ → List ℕ
one None = []
one (Some t) = t ∷ []

abbrev cross_in : CrossName → Option ℕ
cross_in (AtPath top path) = Some top
cross_in _ = None

refs_first : (s : EntryName) (rest : List EntryName) → refs_into (s ∷ rest) ≡ one (top_in s) ++ refs_into rest
refs_first (Within t path) rest = refl
refs_first (UnitOf a) rest = refl
refs_first (RootOf a) rest = refl
refs_first (SpaceAt a path) rest = refl
refs_first (InType a path) rest = refl
refs_first (PartialOf a) rest = refl
refs_first (PartialRoot a) rest = refl
refs_first (InChain a b d) rest = refl
refs_first (Import a b) rest = refl

names_first : (x : CrossName) (rest : List CrossName) → names_into (x ∷ rest) ≡ one (cross_in x) ++ names_into rest
names_first (AtPath t path) rest = refl
names_first (WholeRoot a) rest = refl
names_first (WholeSpace a names) rest = refl
names_first PartRoot rest = refl
names_first (PartSpace names) rest = refl

module _ (own : List (Option ℕ)) where
  -- some number of the list has that own number
  pub record Leads (ns : List ℕ) (m : ℕ) : Type 0 where
    pub n : ℕ
    pub there : In n ns
    pub own_is : own_at own n ≡ Some m

  pub record Same (ms ns : List ℕ) : Type 0 where
    pub to : (m : ℕ) → In m ms → Leads ns m
    pub from : (m : ℕ) → Leads ns m → In m ms

  same_none : Same [] []
  same_none = record { to = λ m i. absurd i; from = λ m l. absurd l.there }

  same_append : (ms ns ps qs : List ℕ) → Same ms ns → Same ps qs → Same (ms ++ ps) (ns ++ qs)
  same_append ms ns ps qs a b = record {
    to = λ m i. ⊎_elim
        (λ (j : In m ms). let l = a.to m j in record { n = l.n; there = in_left l.n ns qs l.there; own_is = l.own_is })
        (λ (j : In m ps). let l = b.to m j in record { n = l.n; there = in_right l.n ns qs l.there; own_is = l.own_is })
        (in_cases m ms ps i);
    from = λ m l. ⊎_elim
        (λ (j : In l.n ns). in_left m ms ps (a.from m (record { n = l.n; there = j; own_is = l.own_is })))
        (λ (j : In l.n qs). in_right m ms ps (b.from m (record { n = l.n; there = j; own_is = l.own_is })))
        (in_cases l.n ns qs l.there);
  }

  same_one : (o : Option ℕ) (x : CrossName) → o ≡ own_of own x → Same (one o) (one (cross_in x))
  same_one None (AtPath t path) e = record {
    to = λ m i. absurd i;
    from = λ m l. absurd (let h : own_at own l.n ≡ own_at own t = ap (own_at own) (sym (only t l.n l.there)) in let no : None ≡ Some m = e ∙ sym h ∙ l.own_is in cc);
  } where
    only : (t n : ℕ) → In n (t ∷ []) → t ≡ n
    only t n (inl p) = p
    only t n (inr i) = absurd i
  same_one (Some k) (AtPath t path) e = record {
    to = λ m i. record { n = t; there = inl refl; own_is = sym e ∙ ap (λ (w : ℕ). Some w) (only k m i) };
    from = λ m l. inl (let h : own_at own l.n ≡ own_at own t = ap (own_at own) (sym (only t l.n l.there)) in let is : Some k ≡ Some m = e ∙ sym h ∙ l.own_is in cc);
  } where
    only : (t n : ℕ) → In n (t ∷ []) → t ≡ n
    only t n (inl p) = p
    only t n (inr i) = absurd i
  same_one None (WholeRoot a) e = same_none
  same_one None (WholeSpace a names) e = same_none
  same_one None PartRoot e = same_none
  same_one None (PartSpace names) e = same_none
  same_one (Some k) (WholeRoot a) e = absurd cc
  same_one (Some k) (WholeSpace a names) e = absurd cc
  same_one (Some k) PartRoot e = absurd cc
  same_one (Some k) (PartSpace names) e = absurd cc

  module _ (spot : ℕ → EntryName) (name : ℕ → CrossName) (P : ℕ → Type 0) (agree : (p : ℕ) → P p → top_in (spot p) ≡ own_of own (name p)) where
    refs_same : (refs : List ℕ) → Each P refs → Same (refs_into (map spot refs)) (names_into (map name refs))
    refs_same [] h = same_none
    refs_same (p ∷ refs) h =
        let first = same_one (top_in (spot p)) (name p) (agree p h.0) in
        let rest = refs_same refs h.1 in
        let a = refs_first (spot p) (map spot refs) in
        let b = names_first (name p) (map name refs) in
        subst (λ (w : List ℕ × List ℕ). Same w.0 w.1) (λ i. (sym a i, sym b i))
        (same_append (one (top_in (spot p))) (one (cross_in (name p))) (refs_into (map spot refs)) (names_into (map name refs)) first rest)

    abbrev pub AttrsHave : List (Attr ℕ) → Type 0
    AttrsHave attrs = Each (λ (a : Attr ℕ). Each P a.value.refs) attrs

    abbrev pub EntriesHave : Entries ℕ → Type 0
    EntriesHave End = Unit {0}
    EntriesHave (Entry e f g) = AttrsHave e.attrs × EntriesHave f × EntriesHave g

    attrs_same : (attrs : List (Attr ℕ)) → AttrsHave attrs → Same (attrs_into (map (attr_map spot) attrs)) (flat_map (λ a. names_into a.value.refs) (map (attr_map name) attrs))
    attrs_same [] h = same_none
    attrs_same (a ∷ attrs) h =
        same_append (refs_into (map spot a.value.refs)) (names_into (map name a.value.refs)) (attrs_into (map (attr_map spot) attrs)) (flat_map (λ a. names_into a.value.refs) (map (attr_map name) attrs))
        (refs_same a.value.refs h.0) (attrs_same attrs h.1)

    entries_same : (f : Entries ℕ) → EntriesHave f → Same (entries_into (entries_map spot f)) (cross_entries_targets (entries_map name f))
    unfolding entries_into cross_entries_targets entries_map
    entries_same End h = same_none
    entries_same (Entry e f g) h =
        same_append (attrs_into (map (attr_map spot) e.attrs)) (lone_targets (node_map name e)) (entries_into (entries_map spot f) ++ entries_into (entries_map spot g))
        (cross_entries_targets (entries_map name f) ++ cross_entries_targets (entries_map name g)) (attrs_same e.attrs h.0)
        (same_append (entries_into (entries_map spot f)) (cross_entries_targets (entries_map name f)) (entries_into (entries_map spot g)) (cross_entries_targets (entries_map name g)) (entries_same f h.1)
        (entries_same g h.2))

    abbrev into_of : CrossTop EntryName → List ℕ
    into_of t = attrs_into t.node.attrs ++ entries_into t.below

    pub top_same : (t : Top) (x : CrossTop ℕ) → cross_of t ≡ cross_top_map spot x → AttrsHave x.node.attrs → EntriesHave x.below → Same (targets_of t) (cross_targets (cross_top_map name x))
    top_same t x e a b =
        let both = same_append (attrs_into (map (attr_map spot) x.node.attrs)) (lone_targets (node_map name x.node)) (entries_into (entries_map spot x.below)) (cross_entries_targets (entries_map name x.below))
        (attrs_same x.node.attrs a) (entries_same x.below b) in
        subst (λ (w : List ℕ). Same w (cross_targets (cross_top_map name x))) (ap into_of (sym e)) both
