-- The values of the new units are those of the sources that a plan has, by their numbers.
use Rattle.std.proofs.Common.{◌≡◌, ℕ, zero, suc, ◌+◌, ◌<◌, List, [], ◌∷◌, ◌++◌, drop, length, map, take, Some, None, slice_get, refl, sym, ap, subst, ◌∙◌, arith, inl, inr}
use Rattle.std.proofs.lemmas.List.{length-map, map-append}
use Rattle.std.proofs.lemmas.Option.{same_Some}
use Rattle.dwz_model.specs.Lists.{Each, In, NoneTwice}
use Rattle.dwz_model.proofs.ListFacts.{in_cases, in_left, in_map, in_right}
use Rattle.dwz_model.proofs.Members.{in_map_from}
use Rattle.dwz_def_cross.specs.CrossSame.{EachTwo}
use Rattle.dwz_def_cross.specs.Tops.{WithCommon, units_with_common, whole_units}
use Rattle.dwz_def_expand.specs.Refusals.{Site, nodes, sites, sites_from, sites_in, sites_of}
use Rattle.dwz_def_expand.specs.Source.{source_unit}
use Rattle.dwz_def_reading.specs.Documents.{Attr, DwUnit, Entries, Node}
use Rattle.dwz_def_reading.specs.Trees.{End, Entry}
use Rattle.dwz_def_tops.specs.Shown.{units_keys}
use Rattle.dwz_expand_layout.specs.Lines.{Line, line, lines}
use Rattle.dwz_expand_passes.specs.Noted.{plan_sources}
use Rattle.dwz_expand_sources.specs.declared.sources.NewUnit.{NewUnit}
use Rattle.dwz_expand_sources.specs.declared.sources.SourceRange.{SourceRange}
use Rattle.dwz_expand_sources.specs.Sources.{AreSources, IsRange, Sources, all_entries, ranges_of}
use Rattle.dwz_expand_sources.proofs.GotLemmas.{sources_got}
use Rattle.dwz_expand_sources.specs.Walk.{sources_of}
use Rattle.dwz_expand_sources.specs.Imports.{same}
use Rattle.dwz_expand_passes.proofs.LineLemmas.{all_nodes, listed_node, node_of}
use Rattle.dwz_expand_passes.proofs.StandLemmas.{lines_law}
use Rattle.dwz_expand_passes.specs.Lined.{StandsAs, all_lines}

-- ---- values of entries

pub record IsValueOf (n p start : ℕ) (attrs : List (Attr ℕ)) (s : Site ℕ) : Type 0 where
  pub unit : s.unit ≡ n
  pub source : s.source ≡ p
  pub index : ℕ
  pub index_is : s.index ≡ start + index
  pub got : slice_get attrs index ≡ Some s.attr

value_in : (n p start index : ℕ) (attrs : List (Attr ℕ)) (a : Attr ℕ) → slice_get attrs index ≡ Some a
    → In (record { unit = n; source = p; index = start + index; attr = a }) (sites_of n p start attrs)
value_in n p start index [] a got = absurd (let z : None ≡ Some a = got in cc)
value_in n p start zero (b ∷ attrs) a got =
    let same : b ≡ a = same_Some b a got in
    let at : start ≡ start + 0 = omega arith in
    inl (λ i. record { unit = n; source = p; index = at i; attr = same i })
value_in n p start (suc index) (b ∷ attrs) a got =
    let at : suc start + index ≡ start + suc index = omega arith in
    inr (subst (λ (k : ℕ). In (record { unit = n; source = p; index = k; attr = a }) (sites_of n p (suc start) attrs)) at (value_in n p (suc start) index attrs a got))

value_from : (n p start : ℕ) (attrs : List (Attr ℕ)) (s : Site ℕ) → In s (sites_of n p start attrs) → IsValueOf n p start attrs s
value_from n p start [] s there = absurd there
value_from n p start (a ∷ attrs) s (inl is) = record {
  unit = sym (ap (λ (t : Site ℕ). t.unit) is);
  source = sym (ap (λ (t : Site ℕ). t.source) is);
  index = 0;
  index_is = sym (ap (λ (t : Site ℕ). t.index) is) ∙ (let at : start ≡ start + 0 = omega arith in at);
  got = ap (λ (t : Site ℕ). Some t.attr) is;
}
value_from n p start (a ∷ attrs) s (inr later) =
    let o = value_from n p (suc start) attrs s later in
    record {
      unit = o.unit;
      source = o.source;
      index = suc o.index;
      index_is = o.index_is ∙ (let at : suc start + o.index ≡ start + suc o.index = omega arith in at);
      got = o.got;
    }

values_in : (n : ℕ) (ds : List (Node ℕ)) (d : Node ℕ) (s : Site ℕ) → In d ds → In s (sites_of n d.at 0 d.attrs) → In s (sites_in n ds)
unfolding sites_in
values_in n [] d s there is = absurd there
values_in n (e ∷ ds) d s (inl same) is =
    in_left s (sites_of n e.at 0 e.attrs) (sites_in n ds) (subst (λ (x : Node ℕ). In s (sites_of n x.at 0 x.attrs)) (sym same) is)
values_in n (e ∷ ds) d s (inr later) is = in_right s (sites_of n e.at 0 e.attrs) (sites_in n ds) (values_in n ds d s later is)

values_from : (n : ℕ) (ds : List (Node ℕ)) (s : Site ℕ) → In s (sites_in n ds) → (d : Node ℕ) × In d ds × In s (sites_of n d.at 0 d.attrs)
unfolding sites_in
values_from n [] s there = absurd there
values_from n (e ∷ ds) s there = elim (in_cases s (sites_of n e.at 0 e.attrs) (sites_in n ds) there) [
  | inl here ↦ (e, inl refl, here)
  | inr later ↦ (let o = values_from n ds s later in (o.0, inr o.1, o.2))
]

-- ---- lists, one by one

pub two_in : {X Y : Type 0} (R : X → Y → Type 0) (xs : List X) (ys : List Y) (x : X) → EachTwo R xs ys → In x xs → (y : Y) × In y ys × R x y
two_in R [] ys x two there = absurd there
two_in R (a ∷ xs) [] x two there = absurd two
two_in R (a ∷ xs) (b ∷ ys) x two (inl is) = (b, inl refl, subst (λ (z : _). R z b) is two.0)
two_in R (a ∷ xs) (b ∷ ys) x two (inr later) = (let o = two_in R xs ys x two.1 later in (o.0, inr o.1, o.2))

pub two_back : {X Y : Type 0} (R : X → Y → Type 0) (xs : List X) (ys : List Y) (y : Y) → EachTwo R xs ys → In y ys → (x : X) × In x xs × R x y
two_back R xs [] y two there = absurd there
two_back R [] (b ∷ ys) y two there = absurd two
two_back R (a ∷ xs) (b ∷ ys) y two (inl is) = (a, inl refl, subst (λ (z : _). R a z) is two.0)
two_back R (a ∷ xs) (b ∷ ys) y two (inr later) = (let o = two_back R xs ys y two.1 later in (o.0, inr o.1, o.2))

pub two_long : {X Y : Type 0} (R : X → Y → Type 0) (xs : List X) (ys : List Y) → EachTwo R xs ys → length xs ≡ length ys
two_long R [] [] two = refl
two_long R [] (b ∷ ys) two = absurd two
two_long R (a ∷ xs) [] two = absurd two
two_long R (a ∷ xs) (b ∷ ys) two = ap suc (two_long R xs ys two.1)

each_take : {X : Type 0} (P : X → Type 0) (n : ℕ) (xs : List X) → Each P xs → Each P (take n xs)
each_take P zero xs h = tt
each_take P (suc n) [] h = tt
each_take P (suc n) (x ∷ xs) h = (h.0, each_take P n xs h.1)

each_drop : {X : Type 0} (P : X → Type 0) (n : ℕ) (xs : List X) → Each P xs → Each P (drop n xs)
each_drop P zero xs h = h
each_drop P (suc n) [] h = tt
each_drop P (suc n) (x ∷ xs) h = each_drop P n xs h.1

unit_ranges : (P : SourceRange → Type 0) (ranges : List SourceRange) (x : NewUnit) → Each P ranges → Each P (ranges_of ranges x)
unit_ranges P ranges x h = each_take P _ (drop x.first ranges) (each_drop P x.first ranges h)

lines_long : (w : WithCommon ℕ) → length (all_lines w) ≡ length (all_entries w)
lines_long w =
    sym (length-map (all_lines w) node_of) ∙ ap (λ (ns : List (Node ℕ)). length ns) (all_nodes (units_with_common w)) ∙ length-map (all_entries w) listed_node

nodes_are : (depth : ℕ) (f : Entries ℕ) → map node_of (lines depth f) ≡ nodes f
unfolding lines nodes
nodes_are depth End = refl
nodes_are depth (Entry e c n) = ap (λ (ns : List (Node ℕ)). e ∷ ns) (map-append node_of (lines (suc depth) c) (lines depth n) ∙ (λ i. nodes_are (suc depth) c i ++ nodes_are depth n i))

-- ---- the sources of new units

-- It is a value of the source with a number, in the unit with its number.
pub record IsPlanned (w : WithCommon ℕ) (s : Sources) (v : Site ℕ) : Type 0 where
  pub source : ℕ
  pub planned : In (v.unit, source) (plan_sources s.ranges 0 s.units)
  pub line_of : Line ℕ
  pub found : slice_get (all_lines w) source ≡ Some line_of
  pub at : v.source ≡ line_of.node.at
  pub got : slice_get line_of.node.attrs v.index ≡ Some v.attr

-- it is in no unit before that one
plan_from : (ranges : List SourceRange) (first : ℕ) (xs : List NewUnit) (p : ℕ × ℕ) → In p (plan_sources ranges first xs) → p.0 < first + length xs
unfolding plan_sources
plan_from ranges first [] p there = absurd there
plan_from ranges first (x ∷ xs) p there =
    elim (in_cases p (map (λ i. (first, i)) (sources_of ranges x)) (plan_sources ranges (suc first) xs) there) [
      | inl here ↦
          (let o = in_map_from (λ (i : ℕ). (first, i)) p (sources_of ranges x) here in
          let n : first ≡ p.0 = ap (λ (q : ℕ × ℕ). q.0) o.is in omega (arith, n))
      | inr later ↦ (let lt = plan_from ranges (suc first) xs p later in omega (arith, lt))
    ]

module _ (w : WithCommon ℕ) (ranges : List SourceRange) (good : Each (IsRange (length (all_lines w))) ranges) where
  abbrev all : List (DwUnit ℕ)
  all = units_with_common w

  abbrev ls : DwUnit ℕ → List (Line ℕ)
  ls u = line 1 u.root ∷ lines 2 (source_unit same all u).below

  abbrev ds : DwUnit ℕ → List (Node ℕ)
  ds u = u.root ∷ nodes (source_unit same all u).below

  abbrev Found : ℕ → Line ℕ → Type 0
  Found i l = slice_get (all_lines w) i ≡ Some l

  at_lines : (x : NewUnit) (u : DwUnit ℕ) → StandsAs w ranges x u → EachTwo Found (sources_of ranges x) (ls u)
  at_lines x u stand =
      subst (λ (below : List (Line ℕ)). EachTwo Found (sources_of ranges x) (line 1 u.root ∷ below)) stand.below
      (sources_got (all_lines w) ranges x (line 1 u.root) stand.root (unit_ranges (IsRange (length (all_lines w))) ranges x good))

  nodes_here : (u : DwUnit ℕ) → map node_of (ls u) ≡ ds u
  nodes_here u = ap (λ (ns : List (Node ℕ)). u.root ∷ ns) (nodes_are 2 (source_unit same all u).below)

  unit_in : (n : ℕ) (x : NewUnit) (u : DwUnit ℕ) (stand : StandsAs w ranges x u) (i index : ℕ) (l : Line ℕ) (a : Attr ℕ) → In i (sources_of ranges x) → slice_get (all_lines w) i ≡ Some l
      → slice_get l.node.attrs index ≡ Some a → In (record { unit = n; source = l.node.at; index = index; attr = a }) (sites_in n (ds u))
  unit_in n x u stand i index l a there found got =
      let o = two_in Found (sources_of ranges x) (ls u) i (at_lines x u stand) there in
      let one : o.0 ≡ l = same_Some o.0 l (sym o.2 ∙ found) in
      let mine : In l (ls u) = subst (λ (k : Line ℕ). In k (ls u)) one o.1 in
      let node : In l.node (ds u) = subst (λ (ns : List (Node ℕ)). In l.node ns) (nodes_here u) (in_map node_of l (ls u) mine) in
      let at : 0 + index ≡ index = omega arith in
      values_in n (ds u) l.node _ node
      (subst (λ (k : ℕ). In (record { unit = n; source = l.node.at; index = k; attr = a }) (sites_of n l.node.at 0 l.node.attrs)) at (value_in n l.node.at 0 index l.node.attrs a got))

  record IsHere (n : ℕ) (x : NewUnit) (v : Site ℕ) : Type 0 where
    source : ℕ
    there : In source (sources_of ranges x)
    unit : v.unit ≡ n
    line_of : Line ℕ
    found : slice_get (all_lines w) source ≡ Some line_of
    at : v.source ≡ line_of.node.at
    got : slice_get line_of.node.attrs v.index ≡ Some v.attr

  unit_from : (n : ℕ) (x : NewUnit) (u : DwUnit ℕ) (stand : StandsAs w ranges x u) (v : Site ℕ) → In v (sites_in n (ds u)) → IsHere n x v
  unit_from n x u stand v there =
      let o = values_from n (ds u) v there in
      let m = in_map_from node_of o.0 (ls u) (subst (λ (ns : List (Node ℕ)). In o.0 ns) (sym (nodes_here u)) o.1) in
      let t = two_back Found (sources_of ranges x) (ls u) m.source (at_lines x u stand) m.there in
      let own = value_from n o.0.at 0 o.0.attrs v o.2 in
      let index : own.index ≡ v.index = (let e = own.index_is in omega (arith, e)) in
      record {
        source = t.0;
        there = t.1;
        unit = own.unit;
        line_of = m.source;
        found = t.2;
        at = own.source ∙ sym (ap (λ (d : Node ℕ). d.at) m.is);
        got = ap (λ (k : ℕ). slice_get m.source.node.attrs k) (sym index) ∙ ap (λ (d : Node ℕ). slice_get d.attrs own.index) m.is ∙ own.got;
      }

  sources_in : (first : ℕ) (xs : List NewUnit) (us : List (DwUnit ℕ)) → EachTwo (StandsAs w ranges) xs us → (n i index : ℕ) (l : Line ℕ) (a : Attr ℕ)
      → In (n, i) (plan_sources ranges first xs) → slice_get (all_lines w) i ≡ Some l → slice_get l.node.attrs index ≡ Some a
      → In (record { unit = n; source = l.node.at; index = index; attr = a }) (sites_from first (map (source_unit same all) us))
  unfolding plan_sources sites_from
  sources_in first [] [] stand n i index l a there found got = absurd there
  sources_in first [] (u ∷ us) stand n i index l a there found got = absurd stand
  sources_in first (x ∷ xs) [] stand n i index l a there found got = absurd stand
  sources_in first (x ∷ xs) (u ∷ us) stand n i index l a there found got =
      let v : Site ℕ = record { unit = n; source = l.node.at; index = index; attr = a } in
      elim (in_cases (n, i) (map (λ k. (first, k)) (sources_of ranges x)) (plan_sources ranges (suc first) xs) there) [
        | inl here ↦
            (let o = in_map_from (λ (k : ℕ). (first, k)) (n, i) (sources_of ranges x) here in
            let at : first ≡ n = ap (λ (q : ℕ × ℕ). q.0) o.is in
            let own : o.source ≡ i = ap (λ (q : ℕ × ℕ). q.1) o.is in
            let mine = unit_in n x u stand.0 i index l a (subst (λ (k : ℕ). In k (sources_of ranges x)) own o.there) found got in
            in_left v (sites_in first (ds u)) (sites_from (suc first) (map (source_unit same all) us)) (subst (λ (k : ℕ). In v (sites_in k (ds u))) (sym at) mine))
        | inr later ↦ in_right v (sites_in first (ds u)) (sites_from (suc first) (map (source_unit same all) us)) (sources_in (suc first) xs us stand.1 n i index l a later found got)
      ]

  lines_found : (first : ℕ) (xs : List NewUnit) (us : List (DwUnit ℕ)) → EachTwo (StandsAs w ranges) xs us → (n i : ℕ) → In (n, i) (plan_sources ranges first xs)
      → (l : Line ℕ) × (slice_get (all_lines w) i ≡ Some l)
  unfolding plan_sources
  lines_found first [] us stand n i there = absurd there
  lines_found first (x ∷ xs) [] stand n i there = absurd stand
  lines_found first (x ∷ xs) (u ∷ us) stand n i there =
      elim (in_cases (n, i) (map (λ k. (first, k)) (sources_of ranges x)) (plan_sources ranges (suc first) xs) there) [
        | inl here ↦
            (let o = in_map_from (λ (k : ℕ). (first, k)) (n, i) (sources_of ranges x) here in
            let own : o.source ≡ i = ap (λ (q : ℕ × ℕ). q.1) o.is in
            let t = two_in Found (sources_of ranges x) (ls u) i (at_lines x u stand.0) (subst (λ (k : ℕ). In k (sources_of ranges x)) own o.there) in
            (t.0, t.2))
        | inr later ↦ lines_found (suc first) xs us stand.1 n i later
      ]

  record IsIn (first : ℕ) (xs : List NewUnit) (v : Site ℕ) : Type 0 where
    source : ℕ
    planned : In (v.unit, source) (plan_sources ranges first xs)
    line_of : Line ℕ
    found : slice_get (all_lines w) source ≡ Some line_of
    at : v.source ≡ line_of.node.at
    got : slice_get line_of.node.attrs v.index ≡ Some v.attr

  sources_from : (first : ℕ) (xs : List NewUnit) (us : List (DwUnit ℕ)) → EachTwo (StandsAs w ranges) xs us → (v : Site ℕ)
      → In v (sites_from first (map (source_unit same all) us)) → IsIn first xs v
  unfolding plan_sources sites_from
  sources_from first xs [] stand v there = absurd there
  sources_from first [] (u ∷ us) stand v there = absurd stand
  sources_from first (x ∷ xs) (u ∷ us) stand v there =
      elim (in_cases v (sites_in first (ds u)) (sites_from (suc first) (map (source_unit same all) us)) there) [
        | inl here ↦
            (let o = unit_from first x u stand.0 v here in
            let pair : (first, o.source) ≡ (v.unit, o.source) = λ j. (sym o.unit j, o.source) in
            record {
              source = o.source;
              planned =
                  in_left (v.unit, o.source) (map (λ k. (first, k)) (sources_of ranges x)) (plan_sources ranges (suc first) xs)
                  (subst (λ (q : ℕ × ℕ). In q (map (λ k. (first, k)) (sources_of ranges x))) pair (in_map (λ (k : ℕ). (first, k)) o.source (sources_of ranges x) o.there));
              line_of = o.line_of;
              found = o.found;
              at = o.at;
              got = o.got;
            })
        | inr later ↦
            (let o = sources_from (suc first) xs us stand.1 v later in
            record {
              source = o.source;
              planned = in_right (v.unit, o.source) (map (λ k. (first, k)) (sources_of ranges x)) (plan_sources ranges (suc first) xs) o.planned;
              line_of = o.line_of;
              found = o.found;
              at = o.at;
              got = o.got;
            })
      ]

-- ---- of a plan

module _ (w : WithCommon ℕ) (s : Sources) (are : AreSources w s) (apart : NoneTwice (units_keys (units_with_common w))) where
  good_ranges : Each (IsRange (length (all_lines w))) s.ranges
  good_ranges = subst (λ (m : ℕ). Each (IsRange m) s.ranges) (sym (lines_long w)) are.ranges

  stand_all : EachTwo (StandsAs w s.ranges) s.units (whole_units w.own)
  stand_all = lines_law w s are apart

  -- each value of a source that is planned is one of the new units
  pub planned_site : (n i index : ℕ) (l : Line ℕ) (a : Attr ℕ) → In (n, i) (plan_sources s.ranges 0 s.units) → slice_get (all_lines w) i ≡ Some l → slice_get l.node.attrs index ≡ Some a
      → In (record { unit = n; source = l.node.at; index = index; attr = a }) (sites same w)
  planned_site n i index l a there found got = sources_in w s.ranges good_ranges 0 s.units (whole_units w.own) stand_all n i index l a there found got

  -- and each of theirs is one of such a source
  pub site_planned : (v : Site ℕ) → In v (sites same w) → IsPlanned w s v
  site_planned v there =
      let o = sources_from w s.ranges good_ranges 0 s.units (whole_units w.own) stand_all v there in
      record { source = o.source; planned = o.planned; line_of = o.line_of; found = o.found; at = o.at; got = o.got }

  -- each is one of all entries
  pub planned_line : (n i : ℕ) → In (n, i) (plan_sources s.ranges 0 s.units) → (l : Line ℕ) × (slice_get (all_lines w) i ≡ Some l)
  planned_line n i there = lines_found w s.ranges good_ranges 0 s.units (whole_units w.own) stand_all n i there

  -- the unit of a source is one of the new units
  pub planned_unit : (n i : ℕ) → In (n, i) (plan_sources s.ranges 0 s.units) → n < length (whole_units w.own)
  planned_unit n i there =
      let lt = plan_from s.ranges 0 s.units (n, i) there in
      let many = two_long (StandsAs w s.ranges) s.units (whole_units w.own) stand_all in
      omega (arith, lt, many)
