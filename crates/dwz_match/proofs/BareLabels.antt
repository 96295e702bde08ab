-- Labels of tops of a common file in looks across files are their bare labels.
use Rattle.std.proofs.Common.{◌≡◌, ℕ, ℤ, zero, suc, ◌+◌, Bool, List, [], ◌∷◌, ◌++◌, length, map, get_or, Option, Some, None, slice_get, refl, sym, ap, subst, ◌∙◌, inl, inr, ⊎_elim, arith}
use Rattle.std.specs.List.{flat_map}
use Rattle.std.proofs.lemmas.List.{length-map}
use Rattle.dwz_model.proofs.ListFacts.{got_map, in_cases}
use Rattle.dwz_def_reading.specs.Documents.{Attr, Doc, Entries, Node, Value, attr_map, entries_map, node_map}
use Rattle.dwz_def_reading.specs.Lists.{Each, In}
use Rattle.dwz_def_reading.specs.Trees.{End, Entry, size}
use Rattle.dwz_def_tops.specs.Alike.{Movable}
use Rattle.dwz_def_tops.specs.Deciding.{AreMovable}
use Rattle.dwz_def_tops.specs.Spots.{EntryName, name_list, Import, InChain, InType, PartialOf, PartialRoot, RootOf, SpaceAt, Top, UnitOf, Within, tops_of, units_of}
use Rattle.dwz_def_tops.specs.Targets.{attrs_into, entries_into, refs_into, targets_of}
use Rattle.dwz_def_tops.proofs.Targets.{Inside, RefTo, RefsOf, RefsOfAttr, RefsOfNode, RefsOfTop, inside}
use Rattle.dwz_def_tops.proofs.TopNumbers.{at_number, from_numbered}
use Rattle.dwz_def_cross.specs.Tops.{CrossTop}
use Rattle.dwz_def_check.specs.CrossLabels.{cross_attr_label, cross_entries_label, cross_entries_targets, cross_label, cross_targets, cross_top_map, lone_label, name_label, names_into}
use Rattle.dwz_def_check.specs.CrossNames.{AtPath, CrossName, cross_tops}
use Rattle.dwz_def_taken.specs.Beside.{Reused, look_units, own_tops, reused_of}
use Rattle.dwz_def_taken.specs.Laws.{ArePlacedOver, IsReused}
use Rattle.dwz_def_taken.proofs.LookTops.{look_from, own_number, part_number, part_together}
use Rattle.dwz_def_taken.proofs.MovableAcross.{across_law}
use Rattle.dwz_def_taken.proofs.NamesOver.{named_over}
use Rattle.dwz_def_taken.proofs.PlaceLemmas.{whole}
use Rattle.dwz_label.specs.Labels.{attr_label, counted, each_counted, entries_label, label_of, node_label, number, place_label, plain_label, target_label}
use Rattle.dwz_label.specs.Shown.{AreShown, nth_label}
use Rattle.dwz_match.proofs.BareTops.{cross_of, names_agree, units_cross}
use Rattle.dwz_match.proofs.CommonTops.{all_tops, common_tops, spot_of, whole_units}
use Rattle.dwz_match.proofs.Muted.{no_language}
use Rattle.dwz_match.specs.Bare.{AreCommonNames, BareLaw, ShowBare, bare_label}
use Rattle.dwz_match.specs.Partial.{ArePartial}

-- ---- trees whose references all go into tops

module _ (spot : ℕ → EntryName) (name : ℕ → CrossName) (agree : (p n : ℕ) (path : List ℕ) → spot p ≡ Within n path → name p ≡ AtPath n path) (P : ℕ → Type 0) where
  -- what is named has one label, and is in one top
  record OneName (p : ℕ) : Type 0 where
    label : target_label (spot p) ≡ name_label (name p)
    into : (rest : List EntryName) (others : List CrossName) → refs_into rest ≡ names_into others → refs_into (spot p ∷ rest) ≡ names_into (name p ∷ others)

  one_name : (p : ℕ) (s : EntryName) → spot p ≡ s → RefTo P s → OneName p
  one_name p (Within n path) e h =
      let q : name p ≡ AtPath n path = agree p n path e in
      record {
        label = ap target_label e ∙ sym (ap name_label q);
        into = λ rest others same.
            ap (λ (s : EntryName). refs_into (s ∷ rest)) e ∙ ap (λ (w : List ℕ). n ∷ w) same ∙ sym (ap (λ (x : CrossName). names_into (x ∷ others)) q);
      }
  one_name p (UnitOf a) e h = absurd h
  one_name p (RootOf a) e h = absurd h
  one_name p (SpaceAt a path) e h = absurd h
  one_name p (InType a path) e h = absurd h
  one_name p (PartialOf a) e h = absurd h
  one_name p (PartialRoot a) e h = absurd h
  one_name p (InChain a b d) e h = absurd h
  one_name p (Import a b) e h = absurd h

  refs_same : (refs : List ℕ) → Each (RefTo P) (map spot refs) → flat_map target_label (map spot refs) ≡ flat_map name_label (map name refs)
  refs_same [] h = refl
  refs_same (p ∷ refs) h = let a = (one_name p (spot p) refl h.0).label in let b = refs_same refs h.1 in (λ i. a i ++ b i)

  refs_one : (refs : List ℕ) → Each (RefTo P) (map spot refs) → refs_into (map spot refs) ≡ names_into (map name refs)
  refs_one [] h = refl
  refs_one (p ∷ refs) h = (one_name p (spot p) refl h.0).into (map spot refs) (map name refs) (refs_one refs h.1)

  refs_long : (refs : List ℕ) → length (map spot refs) ≡ length (map name refs)
  refs_long refs = length-map refs spot ∙ sym (length-map refs name)

  value_same : (v : Value ℕ) → Each (RefTo P) (map spot v.refs) → plain_label v.plain ++ each_counted target_label (map spot v.refs) ≡ plain_label v.plain ++ each_counted name_label (map name v.refs)
  value_same v h = let a = refs_long v.refs in let b = refs_same v.refs h in (λ i. plain_label v.plain ++ (number (a i) ++ b i))

  attrs_same : (attrs : List (Attr ℕ)) → Each (RefsOfAttr P) (map (attr_map spot) attrs) → flat_map attr_label (map (attr_map spot) attrs) ≡ flat_map cross_attr_label (map (attr_map name) attrs)
  attrs_same [] h = refl
  attrs_same (a ∷ attrs) h = let x = value_same a.value h.0 in let y = attrs_same attrs h.1 in (λ i. (number a.name ++ x i) ++ y i)

  attrs_one : (attrs : List (Attr ℕ)) → Each (RefsOfAttr P) (map (attr_map spot) attrs) → attrs_into (map (attr_map spot) attrs) ≡ flat_map (λ a. names_into a.value.refs) (map (attr_map name) attrs)
  attrs_one [] h = refl
  attrs_one (a ∷ attrs) h = let x = refs_one a.value.refs h.0 in let y = attrs_one attrs h.1 in (λ i. x i ++ y i)

  node_same : (below : ℕ) (e : Node ℕ) → RefsOfNode P (node_map spot e) → node_label below (node_map spot e) ≡ number below ++ lone_label (node_map name e)
  node_same below e h =
      let a : length (map (attr_map spot) e.attrs) ≡ length (map (attr_map name) e.attrs) = length-map e.attrs (attr_map spot) ∙ sym (length-map e.attrs (attr_map name)) in
      let b = attrs_same e.attrs h in
      (λ i. number below ++ (number e.tag ++ (number (a i) ++ b i)))

  size_same : (f : Entries ℕ) → size (entries_map spot f) ≡ size (entries_map name f)
  unfolding entries_map
  size_same End = refl
  size_same (Entry e f g) = let a = size_same f in let b = size_same g in (λ i. a i + b i + 1)

  entries_same : (f : Entries ℕ) → RefsOf P (entries_map spot f) → entries_label (entries_map spot f) ≡ cross_entries_label (entries_map name f)
  unfolding entries_map entries_label cross_entries_label
  entries_same End h = refl
  entries_same (Entry e f g) h =
      let n = size_same f in
      let a = node_same (size (entries_map spot f)) e h.0 in
      let b = entries_same f h.1 in
      let d = entries_same g h.2 in
      (λ i. a i ++ (b i ++ d i)) ∙ (λ i. (number (n i) ++ lone_label (node_map name e)) ++ (cross_entries_label (entries_map name f) ++ cross_entries_label (entries_map name g)))

  entries_one : (f : Entries ℕ) → RefsOf P (entries_map spot f) → entries_into (entries_map spot f) ≡ cross_entries_targets (entries_map name f)
  unfolding entries_map entries_into cross_entries_targets
  entries_one End h = refl
  entries_one (Entry e f g) h = let a = attrs_one e.attrs h.0 in let b = entries_one f h.1 in let d = entries_one g h.2 in (λ i. a i ++ (b i ++ d i))

  -- the label and the targets of a top, by its tree
  abbrev bare_of : CrossTop EntryName → List ℕ
  bare_of t = each_counted counted t.names ++ (node_label (size t.below) t.node ++ entries_label t.below)

  abbrev into_of : CrossTop EntryName → List ℕ
  into_of t = attrs_into t.node.attrs ++ entries_into t.below

  abbrev RefsOfCross : CrossTop EntryName → Type 0
  RefsOfCross t = RefsOfNode P t.node × RefsOf P t.below

  pub label_same : (t : Top) (x : CrossTop ℕ) → cross_top_map spot x ≡ cross_of t → RefsOfTop P t → bare_label t ≡ cross_label (cross_top_map name x)
  label_same t x e h =
      let refs : RefsOfCross (cross_top_map spot x) = subst RefsOfCross (sym e) h in
      let n = size_same x.below in
      let a = node_same (size (entries_map spot x.below)) x.node refs.0 in
      let b = entries_same x.below refs.1 in
      ap bare_of (sym e) ∙ (λ i. each_counted counted x.names ++ (a i ++ b i))
      ∙ (λ i. each_counted counted x.names ++ ((number (n i) ++ lone_label (node_map name x.node)) ++ cross_entries_label (entries_map name x.below)))

  pub targets_same : (t : Top) (x : CrossTop ℕ) → cross_top_map spot x ≡ cross_of t → RefsOfTop P t → targets_of t ≡ cross_targets (cross_top_map name x)
  targets_same t x e h =
      let refs : RefsOfCross (cross_top_map spot x) = subst RefsOfCross (sym e) h in
      let a = attrs_one x.node.attrs refs.0 in
      let b = entries_one x.below refs.1 in
      ap into_of (sym e) ∙ (λ i. a i ++ b i)

-- ---- of all tops that looks go over

map_from : {X Y : Type 0} (f : X → Y) (xs : List X) (k : ℕ) (y : Y) → slice_get (map f xs) k ≡ Some y → (x : X) × (slice_get xs k ≡ Some x) × (f x ≡ y)
map_from f [] k y e = absurd cc
map_from f (x ∷ xs) zero y e = (x, refl, cc)
map_from f (x ∷ xs) (suc k) y e = map_from f xs k y e

none_label : (t : Top) → t.language ≡ None → label_of t ≡ 0 ∷ bare_label t
unfolding label_of
none_label t e = ap (λ (o : Option ℤ). (place_label o (name_list t)) ++ (node_label (size t.below) t.node ++ entries_label t.below)) e

module _ (docs : List (Doc ℕ)) (common : Doc ℕ) (name : ℕ → CrossName) (labels : List (List ℕ)) (targets : List (List ℕ))
    (placed : ArePlacedOver docs common) (partial : ArePartial common.units) (named : AreCommonNames docs common name) (s : ShowBare docs common name labels targets) where
  abbrev r : Reused
  r = reused_of docs common

  re : IsReused r
  re = named_over docs common placed

  agree : (p n : ℕ) (path : List ℕ) → spot_of docs common p ≡ Within n path → name p ≡ AtPath n path
  agree = names_agree (length (units_of docs)) 0 (own_tops r) common.units partial name named

  -- the label and the targets are those of the lists
  record IsListed (t : Top) : Type 0 where
    label : nth_label labels t.number ≡ 0 ∷ bare_label t
    into : get_or targets t.number [] ≡ targets_of t

  own_listed : (t u : Top) → In u (tops_of r.units) → u.number ≡ t.number → cross_of u ≡ cross_of t → Movable (look_units r) t.number → IsListed t
  own_listed t u i number same moves =
      let free : Movable r.units u.number = (across_law docs common placed u i).0 (subst (Movable (look_units r)) (sym number) moves) in
      record {
        label = ap (nth_label labels) (sym number) ∙ s.own_labels u i free
            ∙ ap (λ (w : CrossTop EntryName). 0 ∷ (each_counted counted w.names ++ (node_label (size w.below) w.node ++ entries_label w.below))) same;
        into = ap (λ (k : ℕ). get_or targets k []) (sym number) ∙ s.own_targets u i free ∙ ap (λ (w : CrossTop EntryName). attrs_into w.node.attrs ++ entries_into w.below) same;
      }

  common_listed : (t u : Top) → In t (tops_of (look_units r)) → In u (common_tops docs common) → u.number ≡ t.number → cross_of u ≡ cross_of t → Movable (look_units r) t.number → IsListed t
  common_listed t u there i number same moves =
      let tops = common_tops docs common in
      let at = at_number (own_tops r) tops (from_numbered (length r.units) (own_tops r) (whole_units (length docs) (spot_of docs common) common.units)) u i in
      let got : slice_get (map (cross_top_map (spot_of docs common)) (cross_tops common.units)) at.0 ≡ Some (cross_of u) =
      ap (λ (w : List (CrossTop EntryName)). slice_get w at.0) (sym (units_cross (spot_of docs common) (length docs) (length r.units) (own_tops r) common.units partial)) ∙ got_map cross_of tops at.0 u at.1 in
      let x = map_from (cross_top_map (spot_of docs common)) (cross_tops common.units) at.0 (cross_of u) got in
      let is : cross_top_map (spot_of docs common) x.0 ≡ cross_of t = x.2 ∙ same in
      let refs = inside (look_units r) t there moves in
      let n : own_tops r + at.0 ≡ t.number = sym at.2 ∙ number in
      record {
        label = ap (nth_label labels) (sym n) ∙ s.common_labels at.0 x.0 x.1
            ∙ ap (λ (w : List ℕ). 0 ∷ w) (sym (label_same (spot_of docs common) name agree (Inside (look_units r) t.unit) t x.0 is refs));
        into = ap (λ (k : ℕ). get_or targets k []) (sym n) ∙ s.common_targets at.0 x.0 x.1
            ∙ sym (targets_same (spot_of docs common) name agree (Inside (look_units r) t.unit) t x.0 is refs);
      }

  like_same : (t u : Top) → u.spaces ≡ t.spaces → u.node ≡ t.node → u.below ≡ t.below → cross_of u ≡ cross_of t
  like_same t u a b d = (λ i. record { names = map (λ w. w.text) (a i); node = b i; below = d i })

  listed : (t : Top) → In t (tops_of (look_units r)) → Movable (look_units r) t.number → IsListed t
  listed t i moves = elim (look_from r (whole r re) t i) [
    | inl a ↦
        let u = a.like.top in
        let k = a.like.like in
        own_listed t u a.like.there k.number (like_same t u k.spaces k.node k.below) moves
    | inr b ↦
        let u = b.0.top in
        let k = b.0.like in
        let all = in_cases u (tops_of r.units) (common_tops docs common) (subst (In u) (all_tops docs common) (part_together r (whole r re) u b.0.there)) in
        ⊎_elim
        (λ (own : In u (tops_of r.units)). let low = own_number r (whole r re) u own in let high = part_number r (whole r re) u b.0.there in absurd (omega (arith, low, high)))
        (λ (part : In u (common_tops docs common)). common_listed t u i part k.number (like_same t u k.spaces k.node k.below) moves)
        all
  ]

  pub bare_shown : (movable : List Bool) → AreMovable (look_units r) movable → AreShown (look_units r) labels movable targets
  bare_shown movable flags = record {
    flags = flags;
    labels_len = s.labels_len;
    labels_are = λ t i moves. (listed t i moves).label ∙ sym (none_label t (no_language r t i));
    targets_len = s.targets_len;
    targets_are = λ t i moves. (listed t i moves).into;
  }

pub bare_law : BareLaw
bare_law docs common name labels movable targets placed partial named flags s = bare_shown docs common name labels targets placed partial named s movable flags
