-- New units that have the copies of sources show the units that are written.
use Rattle.std.proofs.Common.{◌≡◌, ℕ, suc, ◌+◌, ◌<◌, List, [], ◌∷◌, ◌++◌, get_or, inl, inr, length, map, slice_get, take, Some, refl, sym, ap, subst, ◌∙◌, arith}
use Rattle.std.specs.List.{flat_map}
use Rattle.std.proofs.lemmas.List.{length-map, map-append}
use Rattle.std.proofs.lemmas.List.Sums.{sum_by-cons, sum_by_more}
use Rattle.dwz_def_cross.specs.CrossSame.{EachTwo}
use Rattle.dwz_def_cross.specs.Tops.{WithCommon, units_with_common, whole_units}
use Rattle.dwz_def_encoding.specs.Meant.{entry_keys}
use Rattle.dwz_def_expand.proofs.WholeLemmas.{names_apart, nth_places, own_copy}
use Rattle.dwz_def_expand.specs.Chosen.{Choice, chosen_attr, chosen_entries, chosen_node, chosen_unit, chosen_units}
use Rattle.dwz_def_expand.specs.Source.{Copy, copies, copy, expanded, source_places, source_unit, source_units}
use Rattle.dwz_def_expand.specs.Written.{written}
use Rattle.dwz_def_reading.specs.Documents.{DwUnit, Entries, attr_map, entries_map, node_map, unit_map}
use Rattle.dwz_def_reading.specs.Lists.{Each}
use Rattle.dwz_def_reading.specs.Trees.{End, Entry}
use Rattle.dwz_def_tops.specs.Lists.{NoneTwice}
use Rattle.dwz_def_tops.specs.Shown.{keys, unit_keys, units_keys}
use Rattle.dwz_expand_layout.specs.Shown.{held_of}
use Rattle.dwz_expand_sources.specs.Imports.{same}
use Rattle.dwz_expand_layout.specs.Lines.{Line, line, lines, unit_lines}
use Rattle.dwz_model.proofs.ListFacts.{in_map}
use Rattle.dwz_model.proofs.Members.{each_of, nth_below}
use Rattle.dwz_model.specs.Lists.{In, Nth}
use Rattle.dwz_expand_layout.proofs.DepthLemmas.{shown_by_depth}
use Rattle.dwz_expand_layout.specs.Depths.{DeepLine, ShowLines, with_ends}
use Rattle.dwz_expand_layout.specs.Entries.{NewLine, UnitLines, line_count}
use Rattle.dwz_expand_layout.specs.Shown.{AttrRefers, LineRefers, ShowUnits, ShowsUnit, UnitRefers}
use Rattle.dwz_expand_sources.specs.declared.sources.NewUnit.{NewUnit}
use Rattle.dwz_expand_sources.specs.Sources.{Sources, in_range, ranges_of}
use Rattle.dwz_expand_passes.proofs.LineLemmas.{key_of, unit_line_keys}
use Rattle.dwz_expand_passes.proofs.StandLemmas.{lines_law, same_test}
use Rattle.dwz_expand_passes.proofs.NumberLemmas.{lengths, numbers_law}
use Rattle.dwz_expand_passes.proofs.ReferLemmas.{copy_refers, kind_refers, lines_refer}
use Rattle.dwz_expand_passes.specs.CopiesOf.{CopiesLaw, HasCopies, HaveCopies, IsCopyOf, NamesNoRoot, named_copy}
use Rattle.dwz_expand_passes.specs.Numbered.{key_in}
use Rattle.dwz_expand_passes.specs.Lined.{StandsAs, all_lines}

-- ---- lines of what is written

module _ (c : Choice ℕ) (g : ℕ → Copy ℕ) where
  abbrev written_line : Line ℕ → Line (Copy ℕ)
  written_line l = line l.depth (chosen_node c (node_map g l.node))

  lines_written : (depth : ℕ) (f : Entries ℕ) → lines depth (chosen_entries c (entries_map g f)) ≡ map written_line (lines depth f)
  unfolding lines chosen_entries entries_map
  lines_written depth End = refl
  lines_written depth (Entry e children next) =
      ap (λ (ls : List (Line (Copy ℕ))). line depth (chosen_node c (node_map g e)) ∷ ls)
      ((λ i. lines_written (suc depth) children i ++ lines_written depth next i) ∙ sym (map-append written_line (lines (suc depth) children) (lines depth next)))

  pub unit_written : (u : DwUnit ℕ) → unit_lines (chosen_unit c (unit_map g u)) ≡ map written_line (unit_lines u)
  unit_written u = ap (λ (ls : List (Line (Copy ℕ))). line 1 (chosen_node c (node_map g u.root)) ∷ ls) (lines_written 2 u.below)

-- ---- a unit

module _ (w : WithCommon ℕ) (s : Sources) (c : Choice ℕ) where
  abbrev us : List (DwUnit ℕ)
  us = source_units same w

  -- entries at indexes of the n-th unit, whose numbers are these
  abbrev Numbered : ℕ → ℕ → List (Line ℕ) → Type 0
  Numbered n number ls = (i p : ℕ) → slice_get (map key_of ls) i ≡ Some p → key_in w (number + i) ≡ copy n p

  module _ (n : ℕ) (u : DwUnit ℕ) (nth : Nth 0 us n u) where
    -- the places of the unit's entries
    listed : get_or (source_places same w) n [] ≡ entry_keys u
    listed = (let first : n ≡ 0 + n = omega arith in nth_places same same_test us 0 us n u n nth first)

    -- in it, its own entries are named by their own copies
    own : (l : Line ℕ) → In l (unit_lines u) → named_copy w n l.node.at ≡ copy n l.node.at
    own l there =
        let place : In l.node.at (map key_of (unit_lines u)) = in_map key_of l (unit_lines u) there in
        let entry : In l.node.at (entry_keys u) = subst (In l.node.at) (unit_line_keys u) place in
        own_copy same same_test us n l.node.at (subst (In l.node.at) (sym listed) entry)

    -- and have these numbers
    numbered : (number : ℕ) → number ≡ lengths (take n (source_places same w)) → Numbered n number (unit_lines u)
    numbered number is i p found =
        let stands : slice_get (get_or (source_places same w) n []) i ≡ Some p =
        ap (λ (ps : List ℕ). slice_get ps i) listed ∙ sym (ap (λ (ps : List ℕ). slice_get ps i) (unit_line_keys u)) ∙ found in
        ap (λ (m : ℕ). key_in w (m + i)) is ∙ numbers_law w n p i stands

    show_lines : (number : ℕ) (deep : List DeepLine) (ls : List (Line ℕ)) → Each (λ l. named_copy w n l.node.at ≡ copy n l.node.at) ls → Numbered n number ls → EachTwo (IsCopyOf w c n) deep ls
        → ShowLines (key_in w) number deep (map (written_line c (named_copy w n)) ls)
    show_lines number [] [] own at copies = tt
    show_lines number [] (l ∷ ls) own at copies = absurd copies
    show_lines number (d ∷ deep) [] own at copies = absurd copies
    show_lines number (d ∷ deep) (l ∷ ls) own at copies =
        let is = copies.0 in
        let first : number + 0 ≡ number = omega arith in
        let place : key_in w number ≡ copy n l.node.at = subst (λ (k : ℕ). key_in w k ≡ copy n l.node.at) first (at 0 l.node.at refl) in (
          record {
            depth = is.depth;
            place = place ∙ sym own.0;
            tag = is.tag;
            attrs = is.attrs ∙ sym (ap (λ (k : Copy ℕ). map held_of (map (chosen_attr c k) (map (attr_map (named_copy w n)) l.node.attrs))) own.0);
          },
          show_lines (suc number) deep ls own.1
              (λ i p found. (let next : number + suc i ≡ suc number + i = omega arith in subst (λ (k : ℕ). key_in w k ≡ copy n p) next (at (suc i) p found))) copies.1,
        )

  -- what copies of entries name is there
  deep_refers : (n : ℕ) → n < length (source_places same w) → (deep : List DeepLine) (ls : List (Line ℕ)) → EachTwo (IsCopyOf w c n) deep ls → Each (λ d. Each NamesNoRoot d.attrs) deep
      → Each (λ d. Each (AttrRefers (lengths (source_places same w))) d.attrs) deep
  deep_refers n lt [] ls copies none = tt
  deep_refers n lt (d ∷ deep) [] copies none = absurd copies
  deep_refers n lt (d ∷ deep) (l ∷ ls) copies none =
      (copy_refers w n lt c l.node.at d.attrs l.node.attrs copies.0.attrs none.0, deep_refers n lt deep ls copies.1 none.1)

  many_copies : (n : ℕ) (deep : List DeepLine) (ls : List (Line ℕ)) → EachTwo (IsCopyOf w c n) deep ls → length (with_ends deep) ≡ length ls
  unfolding with_ends
  many_copies n [] [] copies = refl
  many_copies n [] (l ∷ ls) copies = absurd copies
  many_copies n (d ∷ deep) [] copies = absurd copies
  many_copies n (d ∷ deep) (l ∷ ls) copies = ap suc (many_copies n deep ls copies.1)

  -- ---- a new unit, of which the entries stand as they should

  module _ (n : ℕ) (x : NewUnit) (u : DwUnit ℕ) (o : UnitLines) (nth : Nth 0 us n (source_unit same (units_with_common w) u)) (stands : StandsAs w s.ranges x u) (has : HasCopies w s c n x u o) where
    copies_are : EachTwo (IsCopyOf w c n) has.deep (unit_lines (source_unit same (units_with_common w) u))
    copies_are =
        let some : Some has.root ≡ Some (line 1 u.root) = sym has.is_root ∙ stands.root in
        let root : has.root ≡ line 1 u.root = cc in
        let all : has.root ∷ flat_map (in_range (all_lines w)) (ranges_of s.ranges x) ≡ unit_lines (source_unit same (units_with_common w) u) = (λ i. root i ∷ stands.below i) in
        subst (λ (ls : List (Line ℕ)). EachTwo (IsCopyOf w c n) has.deep ls) all has.copies

    unit_shown : (number : ℕ) → number ≡ lengths (take n (source_places same w))
        → ShowsUnit (key_in w) number o (chosen_unit c (unit_map (named_copy w n) (source_unit same (units_with_common w) u)))
    unit_shown number is =
        let v = source_unit same (units_with_common w) u in
        let show = show_lines n v nth number has.deep (unit_lines v) (each_of _ (unit_lines v) (λ l there. own n v nth l there)) (numbered n v nth number is) copies_are in
        shown_by_depth (key_in w) number o (chosen_unit c (unit_map (named_copy w n) v)) has.deep has.kind has.lines
        (subst (λ (ls : List (Line (Copy ℕ))). ShowLines (key_in w) number has.deep ls) (sym (unit_written c (named_copy w n) v)) show)

    below_all : n < length (source_places same w)
    below_all = (let lt = nth_below 0 us n (source_unit same (units_with_common w) u) nth in omega (arith, lt, length-map us (λ (v : DwUnit ℕ). entry_keys v)))

    unit_many : length o.lines ≡ length (get_or (source_places same w) n [])
    unit_many =
        let v = source_unit same (units_with_common w) u in
        ap (λ (ls : List NewLine). length ls) has.lines
        ∙ many_copies n has.deep (unit_lines v) copies_are
        ∙ sym (length-map (unit_lines v) key_of)
        ∙ ap (λ (ps : List ℕ). length ps) (unit_line_keys v ∙ sym (listed n v nth))

    unit_refers : UnitRefers (lengths (source_places same w)) o
    unit_refers = record {
      kind = kind_refers w n below_all o.kind u.kind has.kind;
      lines = subst (Each (LineRefers (lengths (source_places same w)))) (sym has.lines)
          (lines_refer (lengths (source_places same w)) has.deep (deep_refers n below_all has.deep (unit_lines (source_unit same (units_with_common w) u)) copies_are has.no_roots));
    }

  -- ---- all of them

  abbrev Into : ℕ → List (DwUnit ℕ) → Type 0
  Into n some = (k : ℕ) (v : DwUnit ℕ) → Nth n (map (source_unit same (units_with_common w)) some) k v → Nth 0 us k v

  next_number : (n number many : ℕ) → n < length (source_places same w) → number ≡ lengths (take n (source_places same w)) → many ≡ length (get_or (source_places same w) n [])
      → number + many ≡ lengths (take (suc n) (source_places same w))
  next_number n number many lt is one =
      let step = sum_by_more (λ (ps : List ℕ). length ps) (source_places same w) n [] lt in
      let suc_n : n + 1 ≡ suc n = omega arith in
      let last = ap (λ (m : ℕ). lengths (take m (source_places same w))) suc_n in
      omega (arith, is, one, step, last)

  units_shown : (n number : ℕ) (xs : List NewUnit) (some : List (DwUnit ℕ)) (order : List UnitLines) → number ≡ lengths (take n (source_places same w)) → Into n some
      → EachTwo (StandsAs w s.ranges) xs some → HaveCopies w s c n xs some order
      → ShowUnits (key_in w) number order (chosen_units c (copies same (source_places same w) n (map (source_unit same (units_with_common w)) some)))
  unfolding copies
  units_shown n number [] [] [] is into stand has = tt
  units_shown n number [] [] (o ∷ order) is into stand has = absurd has
  units_shown n number [] (u ∷ some) order is into stand has = absurd stand
  units_shown n number (x ∷ xs) [] order is into stand has = absurd stand
  units_shown n number (x ∷ xs) (u ∷ some) [] is into stand has = absurd has
  units_shown n number (x ∷ xs) (u ∷ some) (o ∷ order) is into stand has =
      let nth = into n (source_unit same (units_with_common w) u) (inl (refl, refl)) in
      let next = next_number n number (length o.lines) (below_all n x u o nth stand.0 has.0) is (unit_many n x u o nth stand.0 has.0) in
      (unit_shown n x u o nth stand.0 has.0 number is, units_shown (suc n) (number + length o.lines) xs some order next (λ k v h. into k v (inr h)) stand.1 has.1)

  units_refer : (n : ℕ) (xs : List NewUnit) (some : List (DwUnit ℕ)) (order : List UnitLines) → Into n some → EachTwo (StandsAs w s.ranges) xs some → HaveCopies w s c n xs some order
      → Each (UnitRefers (lengths (source_places same w))) order
  units_refer n [] [] [] into stand has = tt
  units_refer n [] [] (o ∷ order) into stand has = absurd has
  units_refer n [] (u ∷ some) order into stand has = absurd stand
  units_refer n (x ∷ xs) [] order into stand has = absurd stand
  units_refer n (x ∷ xs) (u ∷ some) [] into stand has = absurd has
  units_refer n (x ∷ xs) (u ∷ some) (o ∷ order) into stand has =
      let nth = into n (source_unit same (units_with_common w) u) (inl (refl, refl)) in
      (unit_refers n x u o nth stand.0 has.0, units_refer (suc n) xs some order (λ k v h. into k v (inr h)) stand.1 has.1)

  units_many : (n : ℕ) (xs : List NewUnit) (some : List (DwUnit ℕ)) (order : List UnitLines) → Into n some → EachTwo (StandsAs w s.ranges) xs some → HaveCopies w s c n xs some order
      → line_count order ≡ lengths (map (λ (v : DwUnit ℕ). entry_keys v) (map (source_unit same (units_with_common w)) some))
  units_many n [] [] [] into stand has = refl
  units_many n [] [] (o ∷ order) into stand has = absurd has
  units_many n [] (u ∷ some) order into stand has = absurd stand
  units_many n (x ∷ xs) [] order into stand has = absurd stand
  units_many n (x ∷ xs) (u ∷ some) [] into stand has = absurd has
  units_many n (x ∷ xs) (u ∷ some) (o ∷ order) into stand has =
      let v = source_unit same (units_with_common w) u in
      let nth = into n v (inl (refl, refl)) in
      let one : length o.lines ≡ length (entry_keys v) = unit_many n x u o nth stand.0 has.0 ∙ ap (λ (ps : List ℕ). length ps) (listed n v nth) in
      omega (
        arith,
        one,
        units_many (suc n) xs some order (λ k y h. into k y (inr h)) stand.1 has.1,
        sum_by-cons (λ (y : UnitLines). length y.lines) o order,
        sum_by-cons (λ (ps : List ℕ). length ps) (entry_keys v) (map (λ (y : DwUnit ℕ). entry_keys y) (map (source_unit same (units_with_common w)) some)),
      )

-- ---- keys

module _ (c : Choice ℕ) where
  chosen_keys : (f : Entries (Copy ℕ)) → keys (chosen_entries c f) ≡ keys f
  unfolding keys chosen_entries
  chosen_keys End = refl
  chosen_keys (Entry e children next) = ap (λ (ks : List (Copy ℕ)). e.at ∷ ks) (λ i. chosen_keys children i ++ chosen_keys next i)

  units_keys_chosen : (units : List (DwUnit (Copy ℕ))) → units_keys (chosen_units c units) ≡ units_keys units
  unfolding units_keys unit_keys
  units_keys_chosen [] = refl
  units_keys_chosen (u ∷ units) = (λ i. u.at ∷ u.root.at ∷ (chosen_keys u.below i ++ units_keys_chosen units i))

pub copies_law : CopiesLaw
unfolding written
copies_law w s c order are apart has =
    let stand = lines_law w s are apart in
    let count : line_count order ≡ lengths (source_places same w) = units_many w s c 0 s.units (whole_units w.own) order (λ k v h. h) stand has in
    record {
      shows = units_shown w s c 0 0 s.units (whole_units w.own) order refl (λ k v h. h) stand has;
      apart = subst NoneTwice (sym (units_keys_chosen c (expanded same w))) (names_apart same same_test w apart);
      refer = subst (λ (m : ℕ). Each (UnitRefers m) order) (sym count) (units_refer w s c 0 s.units (whole_units w.own) order (λ k v h. h) stand has);
    }
