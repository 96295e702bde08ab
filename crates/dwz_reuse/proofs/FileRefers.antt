-- What the tops of a file refer into, by the tops that labels of looks across files lead into.
use Rattle.std.proofs.Common.{◌≡◌, ℕ, zero, suc, true, List, [], ◌∷◌, map, get_or, Option, Some, None, slice_get, refl, sym, ap, subst, ◌∙◌, inl, inr, ⊎_elim}
use Rattle.std.proofs.lemmas.List.{append-nil}
use Rattle.dwz_model.proofs.ListFacts.{got_in, got_index_or, got_map, in_cases, in_left, in_map, in_right}
use Rattle.dwz_model.proofs.Members.{each_of}
use Rattle.dwz_def_reading.specs.Documents.{Attr, DwUnit, Entries}
use Rattle.dwz_def_reading.specs.Lists.{In}
use Rattle.dwz_def_reading.specs.Trees.{End, Entry}
use Rattle.dwz_def_tops.specs.Alike.{refers_to}
use Rattle.dwz_def_tops.specs.Lists.{NoneTwice}
use Rattle.dwz_def_tops.specs.Seen.{Closed, Named, Seen, all_seen, named_value, see, seen}
use Rattle.dwz_def_tops.specs.Shown.{units_keys}
use Rattle.dwz_def_tops.specs.Spots.{EntryName, Top, in_file, named, spot_in, spots_from, tops_from}
use Rattle.dwz_def_tops.specs.Targets.{targets_of}
use Rattle.dwz_def_tops.proofs.IntoLemmas.{targets_find, targets_found}
use Rattle.dwz_def_tops.proofs.NameLists.{firsts, spot_is, spots_firsts}
use Rattle.dwz_def_cross.specs.Tops.{CrossTop}
use Rattle.dwz_def_images.specs.After.{ArePlaced}
use Rattle.dwz_def_check.specs.CrossLabels.{cross_targets, cross_top_map}
use Rattle.dwz_def_check.specs.CrossNames.{CrossName, IsWellRead, Side, cross_names_from, cross_tops}
use Rattle.dwz_def_check.proofs.KnownNames.{top_among}
use Rattle.dwz_def_check.proofs.Naming.{each_name, names_in}
use Rattle.dwz_def_check.proofs.TopLists.{in_cross}
use Rattle.dwz_graph.specs.Names.{top_in}
use Rattle.dwz_match.proofs.BareTops.{cross_of}
use Rattle.dwz_reuse.specs.Refers.{IsOwnEdge, own_at, own_numbers, own_of}
use Rattle.dwz_reuse.proofs.OwnTopNames.{from_step, pairs_from, pairs_spot, step_in}
use Rattle.dwz_reuse.proofs.TopPairs.{all_beside, pair_at, top_at}
use Rattle.dwz_reuse.proofs.TreeRefs.{AttrsHave, EntriesHave, Same, top_same}

abbrev Spot : Type 0
Spot = ℕ × EntryName

pub some_at : (own : List (Option ℕ)) (k n : ℕ) → own_at own k ≡ Some n → slice_get own k ≡ Some (Some n)
some_at [] k n e = absurd cc
some_at (o ∷ own) zero n e = ap (λ (w : Option ℕ). Some w) e
some_at (o ∷ own) (suc k) n e = some_at own k n e

module _ (file unit top : ℕ) (units : List (DwUnit ℕ)) (placed : ArePlaced units) (name : ℕ → CrossName)
    (names_are : (p : ℕ) (x : CrossName) → In (p, x) (cross_names_from 0 0 units) → name p ≡ x) where
  abbrev own : List (Option ℕ)
  own = own_numbers top units

  abbrev spots : List Spot
  spots = spots_from unit top units

  abbrev spot : ℕ → EntryName
  spot = spot_in spots

  abbrev tops : List Top
  tops = tops_from unit top (map (in_file file) (named unit top units))

  abbrev targets : List (List ℕ)
  targets = map (λ t. cross_targets (cross_top_map name t)) (cross_tops units)

  -- an entry stands at the place
  abbrev Known : ℕ → Type 0
  Known p = (x : CrossName) × In (p, x) (cross_names_from 0 0 units)

  once : NoneTwice (firsts spots)
  once = subst NoneTwice (sym (spots_firsts unit top units placed.kinds)) placed.apart

  agree : (p : ℕ) → Known p → top_in (spot p) ≡ own_of own (name p)
  agree p h =
      let o = step_in own (pairs_from unit top units) (cross_names_from 0 0 units) (p, h.0) (from_step own [] unit top 0 units placed.kinds refl) h.1 in
      let same : o.spot ≡ (p, (o.spot).1) = λ i. (o.place i, (o.spot).1) in
      let there : In (p, (o.spot).1) spots = subst (λ (w : Spot). In w spots) same (pairs_spot unit top units o.spot o.there) in
      ap top_in (spot_is spots once p (o.spot).1 there) ∙ o.same ∙ ap (own_of own) (sym (names_are p h.0 h.1))

  side : Side ℕ
  side = record { files = record { own = units; common = [] }; own = 0; common = 0; lone = 0; name = name }

  read : IsWellRead (record { own = units; common = [] })
  read = record {
    apart = subst (λ (w : List (DwUnit ℕ)). NoneTwice (units_keys w)) (sym (append-nil units)) placed.apart;
    closed = subst (λ (w : List (DwUnit ℕ)). Closed w) (sym (append-nil units)) placed.closed;
    mains = placed.mains;
    partial = λ u i. absurd i;
  }

  seen_known : (d : Seen ℕ) → In d (all_seen units) → Known d.at
  unfolding side cross_names_from
  seen_known d i =
      let n = each_name side read d (subst (λ (w : List (DwUnit ℕ)). In d (all_seen w)) (sym (append-nil units)) i) in
      let there = names_in side d.at n.0 n.1 in
      (n.0, ⊎_elim (λ (a : In (d.at, n.0) (cross_names_from 0 0 units)). a) (λ b. absurd b) (in_cases (d.at, n.0) (cross_names_from 0 0 units) [] there))

  attrs_have : (d : Seen ℕ) (attrs : List (Attr ℕ)) → In d (all_seen units) → d.attrs ≡ map named_value attrs → AttrsHave own spot name Known agree attrs
  attrs_have d attrs i e = each_of _ attrs (λ a j. each_of Known a.value.refs (λ p k. (
      let o = placed.closed d (named_value a) p i (subst (λ (w : List (Named ℕ)). In (named_value a) w) (sym e) (in_map named_value a attrs j)) k in
      subst Known o.2 (seen_known o.0 o.1))))

  entries_have : (f : Entries ℕ) → ((d : Seen ℕ) → In d (seen f) → In d (all_seen units)) → EntriesHave own spot name Known agree f
  unfolding seen
  entries_have End h = tt
  entries_have (Entry e f g) h = (
    attrs_have (see e f) e.attrs (h (see e f) (inl refl)) refl,
    entries_have f (λ d i. h d (inr (in_left d (seen f) (seen g) i))),
    entries_have g (λ d i. h d (inr (in_right d (seen f) (seen g) i))),
  )

  same_into : (t : Top) (x : CrossTop ℕ) → In x (cross_tops units) → cross_of t ≡ cross_top_map spot x → Same own (targets_of t) (cross_targets (cross_top_map name x))
  same_into t x i e =
      let s = top_among units x (in_cross units x i) in
      top_same own spot name Known agree t x e (attrs_have (see x.node x.below) x.node.attrs s.here refl) (entries_have x.below s.below)

  targets_at : (k : ℕ) (x : CrossTop ℕ) → slice_get (cross_tops units) k ≡ Some x → get_or targets k [] ≡ cross_targets (cross_top_map name x)
  targets_at k x got = got_index_or targets k _ [] (got_map (λ t. cross_targets (cross_top_map name t)) (cross_tops units) k x got)

  pub record Refers (n m : ℕ) : Type 0 where
    pub one : Top
    pub there : In one tops
    pub number : one.number ≡ n
    pub refers : refers_to m one ≡ true

  pub edge_refers : (n m : ℕ) → IsOwnEdge own targets n m → Refers n m
  edge_refers n m e =
      let o = pair_at spot own (cross_tops units) tops e.k n (all_beside spot file unit top units placed.kinds) (some_at own e.k n e.from) in
      let s = same_into o.top o.cross (got_in (cross_tops units) e.k o.cross o.got) o.same in
      let there : In e.t (cross_targets (cross_top_map name o.cross)) = subst (λ (w : List ℕ). In e.t w) (targets_at e.k o.cross o.got) e.there in
      record { one = o.top; there = o.there; number = o.number; refers = targets_find m o.top (s.from m (record { n = e.t; there = there; own_is = e.to })) }

  pub refers_edge : (t : Top) (m : ℕ) → In t tops → refers_to m t ≡ true → IsOwnEdge own targets t.number m
  refers_edge t m i r =
      let o = top_at spot own (cross_tops units) tops t (all_beside spot file unit top units placed.kinds) i in
      let s = same_into t o.cross (got_in (cross_tops units) o.k o.cross o.got) o.same in
      let l = s.to m (targets_found m t r) in
      record {
        k = o.k;
        t = l.n;
        from = got_index_or own o.k (Some t.number) None o.own;
        there = subst (λ (w : List ℕ). In l.n w) (sym (targets_at o.k o.cross o.got)) l.there;
        to = l.own_is;
      }
