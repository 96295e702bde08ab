-- Over a finished common file, with places for names: what stands after in place of a file means what the file meant.
use Rattle.std.proofs.Common.{◌≡◌, ◌⊎◌, ℕ, ◌==◌, List, [], ◌∷◌, ◌++◌, Some, None, map, refl, sym, ap, subst, ◌∙◌, inl, inr}
use Rattle.std.specs.List.{filter}
use Rattle.dwz_def_reading.specs.Documents.{Compile, Doc, DwUnit, Kind, Node, OfType, kind_map, language, unit_map}
use Rattle.dwz_def_reading.specs.Lists.{In, NoneTwice}
use Rattle.dwz_def_reading.specs.Places.{Place}
use Rattle.dwz_def_reading.proofs.ListFacts.{in_cases, in_left, in_map}
use Rattle.dwz_def_reading.proofs.Members.{in_filter_from, in_map_from, in_nth}
use Rattle.dwz_def_tops.specs.Lists.{Nth}
use Rattle.dwz_def_tops.specs.Seen.{Closed, IsPartial, Seen, UnitSame, all_seen, see, seen, seen_below, seen_map}
use Rattle.dwz_def_tops.specs.Shown.{HaveMains, IsShownUnit, OnePlace, UnitsShown, units_keys}
use Rattle.dwz_def_tops.specs.Spaces.{IsSpace, space_text}
use Rattle.dwz_def_tops.specs.Spots.{EntryName, FileUnit, Import, InChain, InType, Labelled, LabelledSpaces, PartialOf, PartialRoot, RootOf, SpaceAt, UnitOf, Within, file_numbers, name_list, rows_of_root, units_of}
use Rattle.dwz_def_tops.specs.UnitNames.{IsNamedBelow}
use Rattle.dwz_def_tops.proofs.RowLemmas.{unit_row}
use Rattle.dwz_def_tops.proofs.ShownLemmas.{below_shown, closed_shown, entry_key, map_shown, root_key, shown_from, shown_in, shown_then, space_to}
use Rattle.dwz_def_tops.proofs.ShownUnits.{entries_named, types_named, units_named}
use Rattle.dwz_def_tops.proofs.Tops.{row_top}
use Rattle.dwz_def_images.specs.After.{AreAfterOf, IsKeptUnit, IsNewUnit, IsOfFile}
use Rattle.dwz_def_images.specs.Held.{Kinded}
use Rattle.dwz_def_images.specs.IsPlan.{Has, Item, OfSpace, OfTop}
use Rattle.dwz_def_images.specs.Moves.{Move, image_in}
use Rattle.dwz_def_images.specs.Plan.{image_by}
use Rattle.dwz_def_images.specs.Units.{out_units, units_of_file}
use Rattle.dwz_def_images.proofs.OldLemmas.{labelled_at}
use Rattle.dwz_def_images.proofs.OldRows.{item_of, kind_in, node_of, row_kinded, space_place, tops_among}
use Rattle.dwz_def_taken.specs.declared.fixed.Fixed.{Fixed}
use Rattle.dwz_def_taken.specs.Beside.{Reused, reused_of}
use Rattle.dwz_def_taken.specs.Laws.{ArePlacedOver, IsReused}
use Rattle.dwz_def_taken.specs.MoveLaws.{copied}
use Rattle.dwz_def_taken.specs.Over.{copy, copy_of, move_over}
use Rattle.dwz_def_taken.specs.Takes.{IsFixed}
use Rattle.dwz_def_taken.proofs.NamesOver.{named_over}
use Rattle.dwz_def_cross.specs.CrossSame.{CrossSame, EachTwo}
use Rattle.dwz_def_cross.specs.Tops.{CrossTop, IsCrossTop, StandsIn, StandsUnder, WithCommon, whole_units}
use Rattle.dwz_def_cross.proofs.TopPlaces.{along_shown}
use Rattle.dwz_law_cross.specs.PairLaws.{with_common}
use Rattle.dwz_law_cross.proofs.PairLemmas.{one_unit, whole_in, whole_shown}
use Rattle.dwz_law_over.proofs.BackNames.{back_in, back_name, back_shown, known_back, mains_shown}
use Rattle.dwz_law_over.proofs.CopyImports.{KnownIn}
use Rattle.dwz_law_over.proofs.CopyPairs.{CopyOfTop, Meets, copies_same}
use Rattle.dwz_law_over.proofs.CopyTops.{cross_seen}
use Rattle.dwz_law_over.proofs.OverNames.{outs_copied, over_entries, over_types, over_units}
use Rattle.dwz_law_over.proofs.OverOnce.{copied_names, mids_once}
use Rattle.dwz_law_over.proofs.OverParts.{known_top, stands_there, top_after}
use Rattle.dwz_law_over.proofs.ShownTops.{cross_from, cross_to, stands_to}
use Rattle.dwz_law_over.proofs.TreeTops.{labelled_along, row_top_of, turned, turned_one}

-- ---- names of which copies are no others

abbrev Single : EntryName → Type 0
Single (Within n path) = ⊥
Single _ = Unit {0}

single_same : (c : ℕ → ℕ) (s : EntryName) → Single (image_by c s) → image_by c s ≡ s
single_same c (Within n path) h = absurd h
single_same c (UnitOf i) h = refl
single_same c (RootOf i) h = refl
single_same c (SpaceAt i path) h = refl
single_same c (InType i path) h = refl
single_same c (PartialOf n) h = refl
single_same c (PartialRoot n) h = refl
single_same c (InChain a b d) h = refl
single_same c (Import i n) h = refl

-- a copy within a top is one of an entry within a top
within_from : (c : ℕ → ℕ) (s : EntryName) (n : ℕ) (path : List ℕ) → image_by c s ≡ Within n path → (a : ℕ) × (s ≡ Within a path) × (c a ≡ n)
within_from c (Within a q) n path h = (let same : c a ≡ n = cc in let paths : q ≡ path = cc in (a, ap (Within a) paths, same))
within_from c (UnitOf i) n path h = absurd cc
within_from c (RootOf i) n path h = absurd cc
within_from c (SpaceAt i q) n path h = absurd cc
within_from c (InType i q) n path h = absurd cc
within_from c (PartialOf i) n path h = absurd cc
within_from c (PartialRoot i) n path h = absurd cc
within_from c (InChain a b d) n path h = absurd cc
within_from c (Import i j) n path h = absurd cc

no_space : (e : Node EntryName) (text : List ℕ) → space_text e ≡ Some text → space_text e ≡ None → ⊥
no_space e text a b = cc

module _ (docs : List (Doc ℕ)) (common : Doc ℕ) (fixed : Fixed) (p : ArePlacedOver docs common) (fx : IsFixed (reused_of docs common) fixed) (file : ℕ) where
  abbrev r : Reused
  r = reused_of docs common

  abbrev units : List (FileUnit EntryName)
  units = units_of docs

  abbrev m : Move
  m = move_over (reused_of docs common) fixed (file_numbers 0 docs)

  abbrev cm : Move
  cm = copied (reused_of docs common) (move_over (reused_of docs common) fixed (file_numbers 0 docs))

  abbrev cp : EntryName → EntryName
  cp = copy_of (reused_of docs common)

  abbrev re : IsReused (reused_of docs common)
  re = named_over docs common p

  old_unit : (u : DwUnit EntryName) → In u (units_of_file file units) → (i : ℕ) × (f : FileUnit EntryName) × Nth 0 units i f × (f.unit ≡ u)
  unfolding units_of_file
  old_unit u h =
      let o = in_map_from (λ (w : FileUnit EntryName). w.unit) u (filter (λ (w : FileUnit EntryName). w.file == file) units) h in
      let t = in_filter_from (λ (w : FileUnit EntryName). w.file == file) o.source units o.there in
      let n = in_nth 0 units o.source t.0 in
      (n.number, o.source, n.nth, o.is)

  -- a space before is at the name of one
  old_space : (i : ℕ) (u : FileUnit EntryName) → Nth 0 units i u → u.unit.kind ≡ Compile → (texts : List (List ℕ)) (e : Node EntryName) → IsSpace texts e u.unit.below
      → (path : List ℕ) × (e.at ≡ SpaceAt i path)
  old_space i u nth kind texts e s =
      let row = unit_row units i u nth kind in
      let it = item_of u.file i (language u.unit) [] row.first (rows_of_root units i) u.unit.below row.is s.outer e s.under in
      by it.item it.has it.is
    where
      kinded : Kinded (rows_of_root units i)
      kinded = let row = unit_row units i u nth kind in row_kinded u.file i (language u.unit) [] row.first (rows_of_root units i) u.unit.below row.is

      named : LabelledSpaces i [] 0 (rows_of_root units i)
      named = subst (λ (w : Kind EntryName). IsNamedBelow i w (rows_of_root units i) u.unit.below) kind (re.own.units_named i u nth).below

      by : (x : Item) → Has s.outer x (rows_of_root units i) → node_of x ≡ e → (path : List ℕ) × (e.at ≡ SpaceAt i path)
      by (OfSpace c) has is = let o = space_place i [] 0 (rows_of_root units i) named s.outer c has in (o.0, ap (λ (w : Node EntryName). w.at) (sym is) ∙ o.1)
      by (OfTop t) has is = absurd (no_space e s.text s.own (ap space_text (sym is) ∙ kind_in (rows_of_root units i) kinded s.outer (OfTop t) has))

  -- ---- the file before, by its names

  module _ {A : Type 0} (h : A → EntryName) (own : List (DwUnit A)) (names : UnitsShown h own (units_of_file file (units_of docs))) where
    record Named (u : DwUnit A) : Type 0 where
      number : ℕ
      unit : FileUnit EntryName
      nth : Nth 0 units number unit
      shown : IsShownUnit h u unit.unit

    named : (u : DwUnit A) → In u own → Named u
    named u is =
        let o = shown_in h own (units_of_file file units) names u is in
        let n = old_unit o.unit o.there in
        record { number = n.0; unit = n.1; nth = n.2; shown = subst (IsShownUnit h u) (sym n.3) o.shown }

    named_seen : (u : DwUnit A) (n : Named u) (d : Seen A) → In d (seen u.below) → In (seen_map h d) (seen n.unit.unit.below)
    unfolding seen_below
    named_seen u n d i =
        let below = below_shown h (u ∷ []) (n.unit.unit ∷ []) (n.shown, tt) in
        let there = subst (In (seen_map h d)) (sym below) (in_map (seen_map h) d (seen u.below ++ []) (in_left d (seen u.below) [] i)) in
        elim (in_cases (seen_map h d) (seen n.unit.unit.below) [] there) [ inl x ↦ x | inr x ↦ absurd x ]

    before_root : (u : DwUnit A) → In u own → Single (image_in cm (h u.root.at))
    before_root u is =
        let n = named u is in
        subst Single (sym (ap (image_in cm) (sym n.shown.root.at ∙ (re.own.units_named n.number n.unit n.nth).root))) tt

    kind_is : (u : DwUnit A) (n : Named u) (k : Kind A) → u.kind ≡ k → n.unit.unit.kind ≡ kind_map h k
    kind_is u n k e = n.shown.kind ∙ ap (kind_map h) e

    before_space : (u : DwUnit A) → In u own → u.kind ≡ Compile → (texts : List (List ℕ)) (d : Node A) → IsSpace texts d u.below → Single (image_in cm (h d.at))
    before_space u is kind texts d s =
        let n = named u is in
        let o = space_to h texts u.below n.unit.unit.below n.shown.below d s in
        let e = old_space n.number n.unit n.nth (kind_is u n Compile kind) texts o.0 o.1 in
        subst Single (sym (ap (image_in cm) (sym o.2.at ∙ e.1))) tt

    before_type : (u : DwUnit A) → In u own → (signature : ℕ) (main : A) → u.kind ≡ OfType signature main → (d : Seen A) → In d (seen u.below) → Single (image_in cm (h d.at))
    before_type u is signature main kind d i =
        let n = named u is in
        let labels = subst (λ (w : Kind EntryName). IsNamedBelow n.number w (rows_of_root units n.number) n.unit.unit.below) (kind_is u n (OfType signature main) kind)
        (re.own.units_named n.number n.unit n.nth).below in
        let l = labelled_at (InType n.number) [] 0 n.unit.unit.below (seen_map h d) labels (named_seen u n d i) in
        subst Single (sym (ap (image_in cm) l.is)) tt

    -- a top before, by the name and the path of each of its entries
    record TopBefore (t : CrossTop A) : Type 0 where
      number : ℕ
      at : h t.node.at ≡ Within number []
      along : (path : List ℕ) (a : A) → StandsIn path t a → h a ≡ Within number (turned path [])

    top_before : (u : DwUnit A) → In u own → u.kind ≡ Compile → (t : CrossTop A) → StandsUnder t.names t u.below → TopBefore t
    top_before u is kind t stands =
        let n = named u is in
        let k = kind_is u n Compile kind in
        let b = stands_to h t.names t u.below n.unit.unit.below n.shown.below stands in
        let row = unit_row units n.number n.unit n.nth k in
        let items = rows_of_root units n.number in
        let o = row_top_of n.unit.file n.number (language n.unit.unit) [] row.first items n.unit.unit.below row.is t.names b.0 b.2 in
        let label = re.own.tops_named o.0 (row_top units n.number o.0 (tops_among items t.names o.0 o.1)).0 in
        let at : b.0.node.at ≡ Within o.0.number [] = ap (λ (w : Node EntryName). w.at) o.2 ∙ label.0 in
        let below : Labelled (Within o.0.number) [] 0 b.0.below = subst (Labelled (Within o.0.number) [] 0) (sym o.3) label.1 in
        record {
          number = o.0.number;
          at = sym b.1.node.at ∙ at;
          along = λ path a s. labelled_along (Within o.0.number) [] path b.0.node b.0.below at below (h a) (along_shown h path t.node t.below b.0.node b.0.below a b.1.node b.1.below s);
        }

  -- ---- after, at places

  module _ (outs : List (DwUnit EntryName)) (after : AreAfterOf (IsOfFile (units_of docs) file) m (units_of docs) outs) (closed : Closed outs) (none : NoneTwice (units_keys outs)) (mains : HaveMains outs)
      (own_in : (u : DwUnit EntryName) → In u (out_units m (units_of docs) file) → In u outs) (g : EntryName → Place) (own shared : List (DwUnit Place))
      (own_shown : UnitsShown g (out_units m (units_of docs) file) own) (shown : UnitsShown g outs (own ++ shared)) (one : OnePlace g outs) where
    abbrev news : List (DwUnit Place)
    news = own ++ shared

    abbrev mids : List (DwUnit EntryName)
    mids = map (unit_map (copy_of (reused_of docs common))) outs

    abbrev e : Place → EntryName
    e = λ q. copy_of (reused_of docs common) (back_in g (units_keys outs) q)

    named_after : UnitsShown e news mids
    named_after = shown_then (back_in g (units_keys outs)) cp news outs mids (back_shown g outs one closed mains outs news (λ u is. is) shown) (map_shown cp outs)

    own_copied : UnitsShown e own (out_units cm (units_of docs) file)
    own_copied =
        let o = out_units m units file in
        subst (UnitsShown e own) (outs_copied docs common fixed p fx file)
        (shown_then (back_in g (units_keys outs)) cp own o (map (unit_map cp) o) (back_shown g outs one closed mains o own own_in own_shown) (map_shown cp o))

    known : (q : Place) → KnownIn news q → (s : EntryName) × KnownIn outs s × (back_in g (units_keys outs) q ≡ s) × (g s ≡ q)
    known = known_back g outs one closed mains news shown

    after_single : (a b : Place) → KnownIn news a → KnownIn news b → Single (e a) → e a ≡ e b → a ≡ b
    after_single a b ka kb single same =
        let x = known a ka in
        let y = known b kb in
        let first = single_same (copy r) (back_in g (units_keys outs) a) single in
        let second = single_same (copy r) (back_in g (units_keys outs) b) (subst Single same single) in
        sym x.3 ∙ ap g (sym x.2 ∙ sym first ∙ same ∙ second ∙ y.2) ∙ y.3

    -- roots are at names of roots
    root_spot : (v : DwUnit EntryName) → IsNewUnit m v ⊎ IsKeptUnit m units v → Single v.root.at
    root_spot v (inl n) = subst (λ (w : DwUnit EntryName). Single w.root.at) n.is tt
    root_spot v (inr k) =
        subst (λ (w : DwUnit EntryName). Single w.root.at) k.is (subst Single (sym (ap (image_in m) (re.own.units_named k.number k.unit k.nth).root)) tt)

    copied_root : (v : DwUnit EntryName) → In v outs → cp v.root.at ≡ v.root.at
    copied_root v there = by v.root.at (root_spot v (after.from v there)) where
      by : (s : EntryName) → Single s → cp s ≡ s
      by (Within n path) h = absurd h
      by (UnitOf i) h = refl
      by (RootOf i) h = refl
      by (SpaceAt i path) h = refl
      by (InType i path) h = refl
      by (PartialOf n) h = refl
      by (PartialRoot n) h = refl
      by (InChain a b d) h = refl
      by (Import i n) h = refl

    after_partial : (x : DwUnit Place) → In x news → IsPartial x.kind → Single (e x.root.at)
    after_partial x is partial =
        let o = shown_from g outs news shown x is in
        let back : back_in g (units_keys outs) x.root.at ≡ o.unit.root.at =
        ap (back_in g (units_keys outs)) o.shown.root.at ∙ back_name g outs one closed mains o.unit.root.at (root_key outs o.unit o.there) in
        subst Single (sym (ap cp back ∙ copied_root o.unit o.there)) (root_spot o.unit (after.from o.unit o.there))

    one_mid : (a b : DwUnit EntryName) → In a mids → In b mids → a.root.at ≡ b.root.at → a ≡ b
    one_mid a b i j same =
        let x = in_map_from (unit_map cp) a outs i in
        let y = in_map_from (unit_map cp) b outs j in
        let roots : x.source.root.at ≡ y.source.root.at =
        sym (copied_root x.source x.there) ∙ ap (λ (w : DwUnit EntryName). w.root.at) x.is ∙ same ∙ sym (ap (λ (w : DwUnit EntryName). w.root.at) y.is) ∙ copied_root y.source y.there in
        sym x.is ∙ ap (unit_map cp) (one_unit outs none x.source y.source x.there y.there roots) ∙ y.is

    -- ---- both

    module _ {A : Type 0} (h : A → EntryName) (v : WithCommon A) (names : UnitsShown h v.own (units_of_file file (units_of docs))) where
      abbrev f : A → EntryName
      f = λ a. image_in (copied (reused_of docs common) (move_over (reused_of docs common) fixed (file_numbers 0 docs))) (h a)

      unit_meets : (u : DwUnit A) (n o : DwUnit EntryName) (x : DwUnit Place) → IsShownUnit h u n → UnitSame (image_in cm) mids n o → IsShownUnit e x o → In x news → Meets f e news mids u x
      unit_meets u n o x first same last there =
          let t = units_named h (image_in cm) (u ∷ []) (n ∷ []) mids (first, tt)
          (λ y is. elim is [ inl z ↦ (o, subst (λ (w : DwUnit EntryName). UnitSame (image_in cm) mids w o) z same) | inr z ↦ absurd z ]) u (inl refl) in
          let is : t.0 ≡ o = one_mid t.0 o t.1.there same.there (t.1.root.at ∙ ap (image_in cm) (sym first.root.at) ∙ sym same.root.at) in
          record { mid = o; same = subst (λ (w : DwUnit EntryName). UnitSame f mids u w) is t.1; shown = last; there = there }

      unit_pairs : (us : List (DwUnit A)) (ns os : List (DwUnit EntryName)) (xs : List (DwUnit Place)) → UnitsShown h us ns → EachTwo (UnitSame (image_in cm) mids) ns os → UnitsShown e xs os
          → ((x : DwUnit Place) → In x xs → In x news) → EachTwo (Meets f e news mids) us xs
      unit_pairs [] [] [] [] a b c there = tt
      unit_pairs (u ∷ us) (n ∷ ns) (o ∷ os) (x ∷ xs) a b c there = (unit_meets u n o x a.0 b.0 c.0 (there x (inl refl)), unit_pairs us ns os xs a.1 b.1 c.1 (λ y is. there y (inr is)))
      unit_pairs [] (n ∷ ns) os xs a b c there = absurd a
      unit_pairs (u ∷ us) [] os xs a b c there = absurd a
      unit_pairs [] [] (o ∷ os) xs a b c there = absurd b
      unit_pairs (u ∷ us) (n ∷ ns) [] xs a b c there = absurd b
      unit_pairs [] [] [] (x ∷ xs) a b c there = absurd c
      unit_pairs (u ∷ us) (n ∷ ns) (o ∷ os) [] a b c there = absurd c

      -- what has the name of an entry in a top stands in a top of that name
      top_copy : (u : DwUnit A) → In u v.own → u.kind ≡ Compile → (t : CrossTop A) → StandsUnder t.names t u.below → (path : List ℕ) (a : A) → StandsIn path t a → (q : Place) → KnownIn news q → e q ≡ f a
          → (b : CrossTop Place) → IsCrossTop news b → b.names ≡ t.names → e b.node.at ≡ f t.node.at → CopyOfTop f e news t path q
      top_copy u is kind t stands path a along q q_known same b b_is b_names b_at =
          let old = top_before h v.own names u is kind t stands in
          let number = copy r (m.stand old.number) in
          let from = after.from in
          -- the place
          let x = known q q_known in
          let x_name : cp x.0 ≡ Within number (turned path []) = ap cp (sym x.2) ∙ same ∙ ap (image_in cm) (old.along path a along) in
          let w = within_from (copy r) x.0 number (turned path []) x_name in
          let k = known_top docs common fixed p fx outs from w.0 (turned path []) x.1.0 x.1.1 (x.1.2 ∙ w.1) in
          let paths : k.along ≡ path = turned_one k.along path k.path_is in
          let c = cross_to g outs news shown k.top k.is in
          let stands_at : StandsIn path c.0 q =
          subst (StandsIn path c.0) (ap g (sym w.1) ∙ x.3)
          (along_shown g path k.top.node k.top.below c.0.node c.0.below (Within w.0 (turned path [])) c.1.node c.1.below (subst (λ (l : List ℕ). StandsIn l k.top (Within w.0 (turned path []))) paths k.stands)) in
          -- its top
          let here = entry_key outs (see k.top.node k.top.below) (cross_seen outs k.top k.is).here in
          let back : back_in g (units_keys outs) c.0.node.at ≡ k.top.node.at = ap (back_in g (units_keys outs)) c.1.node.at ∙ back_name g outs one closed mains k.top.node.at here in
          let top_number : copy r k.after.top.number ≡ number = ap (copy r) k.number_is ∙ w.2 in
          let top_at : e c.0.node.at ≡ Within number [] = ap cp back ∙ ap cp k.after.at ∙ ap (λ (i : ℕ). Within i []) top_number in
          let old_at : f t.node.at ≡ Within number [] = ap (image_in cm) old.at in
          -- the other top
          let d = cross_from g outs news shown b b_is in
          let d_here = entry_key outs (see d.0.node d.0.below) (cross_seen outs d.0 d.2).here in
          let d_back : back_in g (units_keys outs) b.node.at ≡ d.0.node.at = ap (back_in g (units_keys outs)) d.1.node.at ∙ back_name g outs one closed mains d.0.node.at d_here in
          let d_name : cp d.0.node.at ≡ Within number [] = ap cp (sym d_back) ∙ b_at ∙ old_at in
          let y = within_from (copy r) d.0.node.at number [] d_name in
          let other = top_after docs common fixed p fx outs from d.0 d.2 y.0 [] y.1 in
          let other_number : other.1.top.number ≡ y.0 = (let z = sym other.1.at ∙ y.1 in cc) in
          let lists : name_list k.after.top ≡ name_list other.1.top =
          copied_names docs common fixed p fx k.after.top other.1.top (stands_there docs common fixed p fx k.unit k.after.top k.after.stands_is)
          (stands_there docs common fixed p fx other.0 other.1.top other.1.stands_is) (top_number ∙ sym y.2 ∙ ap (copy r) (sym other_number)) in
          record {
            top = c.0;
            is = c.2;
            stands = stands_at;
            at = top_at ∙ sym old_at;
            names_are = c.1.names_are ∙ sym k.after.names_are ∙ lists ∙ other.1.names_are ∙ sym d.1.names_are ∙ b_names;
          }

      pub over_same : ((u : DwUnit A) → In u v.own → IsPartial u.kind → ⊥) → Closed v.own → HaveMains v.own
          → ((u : DwUnit A) (d : Seen A) → In u v.common → In d (all_seen v.own) → d.at ≡ u.root.at → ⊥) → CrossSame v (with_common own shared)
      over_same kinds v_closed v_mains apart_from =
          let olds = units_of_file file units in
          copies_same Single f e v (with_common own shared) mids (record {
            apart_from = apart_from;
            kinds = kinds;
            closed = v_closed;
            mains = v_mains;
            shown = named_after;
            closed_after = closed_shown g outs news shown closed;
            mains_after = mains_shown g outs news shown mains;
            entries = entries_named h (image_in cm) v.own olds mids names (over_entries docs common fixed p fx file outs after);
            types = types_named h (image_in cm) v.own olds mids names (over_types docs common fixed p fx file outs after);
            units = unit_pairs v.own olds (whole_units (out_units cm units file)) (whole_units own) names (over_units docs common fixed p fx file outs after)
                (whole_shown e own (out_units cm units file) own_copied) (λ x there. in_left x own shared (whole_in own x there));
            once = mids_once docs common fixed p fx outs after.from none;
            single = after_single;
            root_single = before_root h v.own names;
            space_single = before_space h v.own names;
            type_single = before_type h v.own names;
            partial_single = after_partial;
            tops = top_copy;
          })
