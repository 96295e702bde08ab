-- Where copies are one, the partial units of the move over a finished common file serve their users.
use Rattle.std.proofs.Common.{◌≡◌, ℕ, ◌+◌, ◌<◌, ◌≤◌, ◌||◌, true, List, [], ◌∷◌, ◌++◌, length, Option, Some, None, refl, sym, ap, subst, ◌∙◌, inl, inr, arith}
use Rattle.std.specs.Prelude.{unwrap_or}
use Rattle.std.specs.Option.{is_some, option_map}
use Rattle.std.proofs.lemmas.Option.{slice_get_past}
use Rattle.dwz_def_reading.specs.Documents.{Compile, Node, language, node_map}
use Rattle.dwz_def_reading.specs.Lists.{In}
use Rattle.dwz_def_reading.specs.Rows.{has}
use Rattle.dwz_def_tops.specs.Lists.{Nth}
use Rattle.dwz_def_tops.specs.Seen.{Named, named_value}
use Rattle.dwz_def_tops.specs.Spaces.{IsSpace, IsUnder, space_text}
use Rattle.dwz_def_tops.proofs.Members.{each_in, in_map_from, in_nth, nth_from, nth_get, nth_in, nth_one}
use Rattle.dwz_def_tops.proofs.SpaceLemmas.{some_none, text_map}
use Rattle.dwz_def_tops.specs.Alike.{Apart, Movable}
use Rattle.dwz_def_tops.specs.Deciding.{alike_test}
use Rattle.dwz_def_tops.specs.Spots.{FileUnit, LabelledTop, PartialRoot, Row, EntryName, Top, Within, name_list, rows_of_root, row_tops, tops_of}
use Rattle.dwz_def_tops.proofs.AlikeLaws.{alike_decides}
use Rattle.dwz_def_tops.proofs.AlikePer.{alike_step}
use Rattle.dwz_def_tops.proofs.RowLemmas.{unit_row}
use Rattle.dwz_def_tops.proofs.Targets.{RefTo, RefsOfAttr}
use Rattle.dwz_def_tops.proofs.Tops.{row_top, unit_of}
use Rattle.dwz_def_images.specs.Homes.{is_home, moves}
use Rattle.dwz_def_images.specs.IsPlan.{AreFilesOf, Has, IsPart, Item, OfSpace, OfTop}
use Rattle.dwz_def_images.specs.Moves.{Move, part_at, row_in_part}
use Rattle.dwz_def_images.specs.Plan.{PartialUnit, image_by, part_row, partials}
use Rattle.dwz_def_images.proofs.PartRows.{entry_text, part_is}
use Rattle.dwz_def_images.proofs.PlanLemmas.{are_parts, has_rep}
use Rattle.dwz_def_images.proofs.UserLemmas.{moves_self, rep_is, stands_same, used, used_by}
use Rattle.dwz_def_images.specs.Held.{HasSpaceLike, HasTopLike, IsHeldIn, Kinded, NamesNoRoot, Serves}
use Rattle.dwz_def_images.proofs.HeldLemmas.{part_found}
use Rattle.dwz_def_images.proofs.KindLemmas.{part_row_kinded, top_plain}
use Rattle.dwz_def_images.proofs.OldRows.{item_of, item_under, kind_in, node_of, row_kinded, space_before, top_names, tops_among, tops_somewhere}
use Rattle.dwz_def_images.proofs.ServeLemmas.{names_no_root}
use Rattle.dwz_def_taken.specs.declared.fixed.Fixed.{Fixed}
use Rattle.dwz_def_taken.specs.Beside.{Reused, look_units, together}
use Rattle.dwz_def_taken.specs.Laws.{IsReused}
use Rattle.dwz_def_taken.specs.MoveLaws.{copied}
use Rattle.dwz_def_taken.specs.Over.{as_part, common_part, common_parts, common_row, copy, move_over, takers, top_map}
use Rattle.dwz_def_taken.specs.Takes.{CanTakeAlong, CanTake, HasLike, InPart, IsFixed, IsTakenAs, Takes, free_rule, free_test, image_at, is_free}
use Rattle.dwz_def_taken.proofs.CommonLemmas.{alike_names}
use Rattle.dwz_def_taken.proofs.CommonParts.{common_nth, in_takers, length-common, nth_common, taker}
use Rattle.dwz_def_taken.proofs.LookTops.{own_look, part_look}
use Rattle.dwz_def_taken.proofs.OverLemmas.{common_stand, fair, free_none, free_two, image_is, moving_seen, stand, stand_none, taken_seen, taken_stand}
use Rattle.dwz_def_taken.proofs.PlaceLemmas.{PartTop, in_part, nth_left, nth_move, nth_right, part_inside, part_nth, whole}
use Rattle.dwz_def_taken.proofs.RowMaps.{has_map, item_map, kinded_map, map_has, top_fixed}
use Rattle.dwz_def_tops.proofs.FiledTops.{nth_cases}

-- ---- names at the end of a list

last_same : (xs ys : List (List ℕ)) (x y : List ℕ) → xs ++ x ∷ [] ≡ ys ++ y ∷ [] → (xs ≡ ys) × (x ≡ y)
last_same [] [] x y e = (refl, (let z : x ≡ y = cc in z))
last_same [] (w ∷ []) x y e = absurd cc
last_same [] (w ∷ v ∷ ys) x y e = absurd cc
last_same (w ∷ []) [] x y e = absurd cc
last_same (w ∷ v ∷ xs) [] x y e = absurd cc
last_same (w ∷ xs) (v ∷ ys) x y e =
    let first : w ≡ v = cc in
    let rest : xs ++ x ∷ [] ≡ ys ++ y ∷ [] = cc in
    let o = last_same xs ys x y rest in
    let both = o.0 in
    ((let z : (w ∷ xs) ≡ (v ∷ ys) = cc in z), o.1)

module _ (r : Reused) (fixed : Fixed) (files : List ℕ) (re : IsReused r) (fx : IsFixed r fixed) (known : AreFilesOf r.units files) where
  abbrev m : Move
  m = copied r (move_over r fixed files)

  abbrev own : List Top
  own = tops_of r.units

  abbrev locals : List PartialUnit
  locals = partials (free_rule r fixed) r.units files

  abbrev firsts : List PartialUnit
  firsts = common_parts r fixed 0 r.commons

  abbrev part_name : EntryName → EntryName
  part_name = as_part (length r.units)

  -- a partial unit of the common file, or one of the files
  data PartIs (n : ℕ) (part : PartialUnit) : Type 0 where
    OfCommon : (f : FileUnit EntryName) → Nth 0 r.commons n f → part ≡ common_part r fixed n → m.rows n ≡ common_row r n → PartIs n part
    OfFile : In part locals → m.rows n ≡ part_row n part → PartIs n part

  rows_common : (n : ℕ) (f : FileUnit EntryName) → Nth 0 r.commons n f → m.rows n ≡ common_row r n
  rows_common n f nth = ap (λ (o : Option (FileUnit EntryName)). unwrap_or (option_map (λ f. common_row r n) o) (row_in_part n (part_at n (firsts ++ locals)))) (nth_get 0 r.commons n n f nth (omega arith))

  rows_local : (n : ℕ) (part : PartialUnit) → Nth 0 (firsts ++ locals) n part → length r.commons ≤ n → m.rows n ≡ part_row n part
  rows_local n part nth low =
      ap (λ (o : Option (FileUnit EntryName)). unwrap_or (option_map (λ f. common_row r n) o) (row_in_part n (part_at n (firsts ++ locals)))) (slice_get_past r.commons n low)
      ∙ ap (row_in_part n) (part_found 0 (firsts ++ locals) n n part nth (omega arith))

  part_kind : (n : ℕ) (part : PartialUnit) → Nth 0 m.parts n part → PartIs n part
  part_kind n part nth = elim (nth_cases 0 firsts locals n part nth) [
    | inl a ↦ (let o = common_nth r fixed 0 r.commons n part a in OfCommon o.0 o.1 o.2 (rows_common n o.0 o.1))
    | inr b ↦ OfFile (nth_in (0 + length firsts) locals n part b) (rows_local n part nth (low b))
  ]
    where
      low : Nth (0 + length firsts) locals n part → length r.commons ≤ n
      low b = let h = nth_from (0 + length firsts) locals n part b in omega (arith, h, length-common r fixed 0 r.commons)

  -- ---- units of the common file

  abbrev row_before : ℕ → Row
  row_before p = rows_of_root (together r) (length r.units + p)

  common_unit : (p : ℕ) (f : FileUnit EntryName) → Nth 0 r.commons p f → Nth 0 (together r) (length r.units + p) f
  common_unit p f nth = nth_right 0 r.units r.commons (length r.units + p) f (nth_move 0 (0 + length r.units) r.commons p (length r.units + p) f nth (omega arith))

  common_kinded : (p : ℕ) (f : FileUnit EntryName) → Nth 0 r.commons p f → Kinded (row_before p)
  common_kinded p f nth =
      let o = unit_row (together r) (length r.units + p) f (common_unit p f nth) (re.whole p f nth) in
      row_kinded f.file (length r.units + p) (language f.unit) [] o.first (row_before p) f.unit.below o.is

  -- a top of its row
  row_part : (p : ℕ) (f : FileUnit EntryName) → Nth 0 r.commons p f → (names : List (List ℕ)) (c : Top) → Has names (OfTop c) (row_before p) → InPart r p c × (name_list c ≡ names)
  row_part p f nth names c h =
      let o = unit_row (together r) (length r.units + p) f (common_unit p f nth) (re.whole p f nth) in (
        row_top (together r) (length r.units + p) c (tops_among (row_before p) names c h),
        top_names f.file (length r.units + p) (language f.unit) [] o.first (row_before p) f.unit.below o.is names c h,
      )

  part_row_has : (p : ℕ) (f : FileUnit EntryName) → Nth 0 r.commons p f → (c : Top) → InPart r p c → Has (name_list c) (OfTop c) (row_before p)
  part_row_has p f nth c is =
      let o = unit_row (together r) (length r.units + p) f (common_unit p f nth) (re.whole p f nth) in
      let u = unit_of (together r) c is.0 in
      let in_row = subst (λ (i : ℕ). In c (row_tops (rows_of_root (together r) i))) is.1 u.in_row in
      let s = tops_somewhere (row_before p) (common_kinded p f nth) c in_row in
      subst (λ (w : List (List ℕ)). Has w (OfTop c) (row_before p))
      (sym (top_names f.file (length r.units + p) (language f.unit) [] o.first (row_before p) f.unit.below o.is s.names c s.has)) s.has

  -- a top of the common file that some top is alike to keeps its names
  common_fixed : (c : Top) (p : ℕ) → InPart r p c → Movable (look_units r) c.number → top_map part_name c ≡ c
  common_fixed c p is free =
      top_fixed part_name (λ n path. refl) (PartTop r re) c (re.all.tops_named c is.0) (part_inside r re c (in_part r re p c is) free)

  fits : (i n : ℕ) → Takes r i n → CanTake r i n
  unfolding CanTakeAlong
  fits i n takes = takes.fits 0

  taken_as : (i n : ℕ) (c : Top) → Takes r i n → InPart r n c → (l : HasLike r i c.number) → IsTakenAs r l.top c
  taken_as i n c takes is l = record { part = n; takes = subst (λ (w : ℕ). Takes r w n) (sym l.unit_is) takes; in_part = is; alike = l.alike }

  names_alike : (t c : Top) → In t own → IsTakenAs r t c → name_list t ≡ name_list c
  names_alike t c there is =
      let w = whole r re in
      alike_names r t c (own_look r w t there).like (part_look r w c (in_part r re is.part c is.in_part)) is.alike.alike

  -- ---- held

  top_image : (s : ℕ → ℕ) (a b : Top) → LabelledTop a → LabelledTop b → s a.number ≡ s b.number → image_by s a.node.at ≡ image_by s b.node.at
  top_image s a b x y e = ap (image_by s) x.0 ∙ ap (λ (n : ℕ). Within n []) e ∙ sym (ap (image_by s) y.0)

  held_common : (t : Top) → In t own → (c : ℕ) → image_at fixed t.number ≡ Some c → IsHeldIn r.units m t
  held_common t there c e =
      let im = image_is r fixed files re fx t there c e in
      let p = im.taken.part in
      let d = im.top in
      let n = part_nth r re p d im.taken.in_part in
      let f = n.0 in
      let u = unit_of r.units t there in
      let low : t.unit < length r.units = im.taken.takes.unit in
      let same : top_map part_name d ≡ d = common_fixed d p im.taken.in_part im.taken.alike.alike.second in
      let row : Has (name_list d) (OfTop (top_map part_name d)) (common_row r p) = has_map part_name (row_before p) (name_list d) (OfTop d) (part_row_has p f n.1 d im.taken.in_part) in
      let row_same : Has (name_list d) (OfTop d) (common_row r p) = subst (λ (w : Top). Has (name_list d) (OfTop w) (common_row r p)) same row in
      record {
        number = p;
        part = common_part r fixed p;
        nth = nth_left 0 firsts locals p (common_part r fixed p) (nth_common r fixed 0 r.commons p f n.1);
        user = in_takers r fixed fx t.unit p im.taken.takes;
        top = d;
        has = subst (λ (w : List (List ℕ)). Has w (OfTop d) (m.rows p)) (sym (names_alike t d there im.taken))
            (subst (λ (w : Row). Has (name_list d) (OfTop d) w) (sym (rows_common p f n.1)) row_same);
        same = taken_seen r fixed files re fx t d there im.taken;
      }

  in_part_of : (n : ℕ) (part : PartialUnit) → m.rows n ≡ part_row n part → (names : List (List ℕ)) (s : Top) → Has names (OfTop s) (m.rows n) → In s part.tops × (name_list s ≡ names)
  in_part_of n part rows names s h = ((part_is n part).tops_are names s).0 (subst (λ (w : Row). Has names (OfTop s) w) rows h)

  abbrev rule_fits : PartialUnit → Type 0
  rule_fits part = IsPart (free_rule r fixed) r.units part

  file_part : (part : PartialUnit) → In part locals → IsPart (free_rule r fixed) r.units part
  file_part part there = each_in (IsPart (free_rule r fixed) r.units) part locals (are_parts (free_rule r fixed) r.units files) there

  free_names : (t s : Top) → In t own → In s own → free_test r fixed t.number s.number ≡ true → name_list t ≡ name_list s
  free_names t s x y e = (alike_step Apart r.units (alike_test Apart r.units) (alike_decides Apart r.units) t s x y (free_two r fixed files re fx t.number s.number e).alike_two).1

  held_file : (t : Top) → In t own → moves (free_rule r fixed) r.units t.number ≡ true → IsHeldIn r.units m t
  held_file t there mv =
      let rule = free_rule r fixed in
      let fair_is = fair r fixed files re fx in
      let k = has_rep rule r.units fair_is files known t there mv in
      let self = moves_self r.units rule fair_is t.number mv in
      let same : free_test r fixed t.number k.top.number ≡ true = ap (free_test r fixed t.number) k.is_rep ∙ (rep_is (free_test r fixed) r.units t.number t there self).alike_is in
      let n = in_nth 0 locals k.part k.there in
      let number : ℕ = length firsts + n.number in
      let nth : Nth 0 m.parts number k.part = nth_right 0 firsts locals number k.part (nth_move 0 (0 + length firsts) locals n.number number k.part n.nth (omega arith)) in
      let rows = rows_local number k.part nth (omega (arith, length-common r fixed 0 r.commons)) in
      let top_there = (((file_part k.part k.there).tops k.top).0 k.holds).there in
      record {
        number = number;
        part = k.part;
        nth = nth;
        user = subst (λ (w : List ℕ). In t.unit w) (sym k.users) (used (free_test r fixed) r.units t.number t there self);
        top = k.top;
        has = subst (λ (w : Row). Has (name_list t) (OfTop k.top) w) (sym rows) (((part_is number k.part).tops_are (name_list t) k.top).1 (k.holds, sym (free_names t k.top there top_there same)));
        same = moving_seen r fixed files re fx t k.top there top_there mv same;
      }

  held_in : (t : Top) → In t own → m.gone t.number ≡ true → IsHeldIn r.units m t
  held_in t there gone = go (image_at fixed t.number) refl gone where
    go : (o : Option ℕ) → image_at fixed t.number ≡ o → (is_some (image_at fixed t.number) || moves (free_rule r fixed) r.units t.number) ≡ true → IsHeldIn r.units m t
    go (Some c) q h = held_common t there c q
    go None q h = held_file t there (subst (λ (o : Option ℕ). (is_some o || moves (free_rule r fixed) r.units t.number) ≡ true) q h)

  -- ---- used

  used_common : (n : ℕ) (f : FileUnit EntryName) → Nth 0 r.commons n f → (i : ℕ) → In i (takers fixed r.units n) → (names : List (List ℕ)) (s : Top) → Has names (OfTop s) (common_row r n)
      → HasTopLike r.units m i names s × NamesNoRoot s.node
  used_common n f nth i user names s h =
      let o = map_has part_name (row_before n) names (OfTop s) h in
      go o.item o.has o.is
    where
      go : (x : Item) → Has names x (row_before n) → item_map part_name x ≡ OfTop s → HasTopLike r.units m i names s × NamesNoRoot s.node
      go (OfSpace e) has is = absurd (let z = is in cc)
      go (OfTop c) has is =
          let takes = taker r fixed fx i n user in
          let p = row_part n f nth names c has in
          let l = (fits i n takes).tops c p.0 in
          let t = l.top in
          let as' = taken_as i n c takes p.0 l in
          let kept : top_map part_name c ≡ c = common_fixed c n p.0 l.alike.alike.second in
          let here : top_map part_name c ≡ s = (let z = is in cc) in
          let same : c ≡ s = sym kept ∙ here in
          let st : stand r fixed files re fx t.number ≡ stand r fixed files re fx c.number =
          taken_stand r fixed files re fx t c l.there as' ∙ sym (common_stand r fixed files re fx c.number l.alike.common) in
          let like : HasTopLike r.units m i names c = record {
            top = t;
            there = l.there;
            unit_is = l.unit_is;
            at = top_image (stand r fixed files re fx) t c (re.own.tops_named t l.there) (re.all.tops_named c p.0.0) st;
            names_are = names_alike t c l.there as' ∙ p.1;
          } in
          let refs = part_inside r re c (in_part r re n c p.0) l.alike.alike.second in
          let none : NamesNoRoot c.node = λ a k there ref. (
          let w = in_map_from named_value a c.node.attrs there in
          let value : In (PartialRoot k) w.source.value.refs = subst (λ (v : Named EntryName). In (PartialRoot k) v.value.refs) (sym w.is) ref in
          each_in (RefTo (PartTop r re)) (PartialRoot k) w.source.value.refs (each_in (RefsOfAttr (PartTop r re)) w.source c.node.attrs refs.0 w.there) value) in
          (subst (HasTopLike r.units m i names) same like, subst (λ (w : Top). NamesNoRoot w.node) same none)

  file_like : (part : PartialUnit) → In part locals → (i : ℕ) → In i part.users → (s : Top) → In s part.tops → HasTopLike r.units m i (name_list s) s
  file_like part there i user s holds =
      let rule = free_rule r fixed in
      let fair_is = fair r fixed files re fx in
      let p = file_part part there in
      let b = (p.tops s).0 holds in
      let mv : moves rule r.units s.number ≡ true = ap is_home b.home ∙ p.moves in
      let t = used_by (free_test r fixed) r.units s.number i (subst (λ (w : List ℕ). In i w) (sym b.users) user) in
      let two = free_two r fixed files re fx s.number t.top.number t.alike_is in
      let st : stand r fixed files re fx s.number ≡ stand r fixed files re fx t.top.number =
      stand_none r fixed files re fx s.number (free_image s.number two.first) ∙ ap (copy r) (stands_same r.units rule fair_is s.number t.top.number s b.there refl t.alike_is mv)
      ∙ sym (stand_none r fixed files re fx t.top.number (free_image t.top.number two.second)) in
      record {
        top = t.top;
        there = t.there;
        unit_is = t.unit_is;
        at = sym (top_image (stand r fixed files re fx) s t.top (re.own.tops_named s b.there) (re.own.tops_named t.top t.there) st);
        names_are = sym (free_names s t.top b.there t.there t.alike_is);
      }
    where
      free_image : (n : ℕ) → is_free fixed n ≡ true → image_at fixed n ≡ None
      free_image n e = free_none r fixed files re fx n e

  used_in : (n : ℕ) (part : PartialUnit) → Nth 0 m.parts n part → (i : ℕ) → In i part.users → (names : List (List ℕ)) (s : Top) → Has names (OfTop s) (m.rows n) → HasTopLike r.units m i names s
  used_in n part nth i user names s h = go (part_kind n part nth) where
    go : PartIs n part → HasTopLike r.units m i names s
    go (OfCommon f c is rows) =
        (used_common n f c i (subst (λ (w : PartialUnit). In i w.users) is user) names s (subst (λ (w : Row). Has names (OfTop s) w) rows h)).0
    go (OfFile there rows) =
        let o = in_part_of n part rows names s h in
        subst (λ (w : List (List ℕ)). HasTopLike r.units m i w s) o.1 (file_like part there i user s o.0)

  apart_in : (n : ℕ) (part : PartialUnit) → Nth 0 m.parts n part → (i : ℕ) → In i part.users → (names : List (List ℕ)) (s : Top) → Has names (OfTop s) (m.rows n) → NamesNoRoot s.node
  apart_in n part nth i user names s h = go (part_kind n part nth) where
    go : PartIs n part → NamesNoRoot s.node
    go (OfCommon f c is rows) =
        (used_common n f c i (subst (λ (w : PartialUnit). In i w.users) is user) names s (subst (λ (w : Row). Has names (OfTop s) w) rows h)).1
    go (OfFile there rows) =
        let o = in_part_of n part rows names s h in
        names_no_root r.units re.own s (((file_part part there).tops s).0 o.0).there

  -- ---- spaces

  -- where a top of a unit stands
  stands_at : (t : Top) → In t own → Has (name_list t) (OfTop t) (rows_of_root r.units t.unit)
  stands_at t there =
      let o = unit_of r.units t there in
      let k = unit_row r.units t.unit o.unit o.nth o.compile in
      let kinded = row_kinded o.unit.file t.unit (language o.unit.unit) [] k.first (rows_of_root r.units t.unit) o.unit.unit.below k.is in
      let s = tops_somewhere (rows_of_root r.units t.unit) kinded t o.in_row in
      subst (λ (w : List (List ℕ)). Has w (OfTop t) (rows_of_root r.units t.unit))
      (sym (top_names o.unit.file t.unit (language o.unit.unit) [] k.first (rows_of_root r.units t.unit) o.unit.unit.below k.is s.names t s.has)) s.has

  space_there : (i : ℕ) (f : FileUnit EntryName) → Nth 0 r.units i f → f.unit.kind ≡ Compile → (names : List (List ℕ)) (e : Node EntryName) → IsUnder names e f.unit.below → (text : List ℕ)
      → space_text e ≡ Some text → (d : Node EntryName) × Has names (OfSpace d) (rows_of_root r.units i) × (space_text d ≡ Some text)
  space_there i f nth kind names e under text is =
      let k = unit_row r.units i f nth kind in
      let o = item_of f.file i (language f.unit) [] k.first (rows_of_root r.units i) f.unit.below k.is names e under in
      go o.item o.has o.is (row_kinded f.file i (language f.unit) [] k.first (rows_of_root r.units i) f.unit.below k.is)
    where
      go : (x : Item) → Has names x (rows_of_root r.units i) → node_of x ≡ e → Kinded (rows_of_root r.units i) → (d : Node EntryName) × Has names (OfSpace d) (rows_of_root r.units i) × (space_text d ≡ Some text)
      go (OfTop t) has same kinded = some_none (space_text e) text is (ap space_text (sym same) ∙ kind_in (rows_of_root r.units i) kinded names (OfTop t) has)
      go (OfSpace d) has same kinded = (d, has, ap space_text same ∙ is)

  space_common : (n : ℕ) (f : FileUnit EntryName) → Nth 0 r.commons n f → (i : ℕ) → In i (takers fixed r.units n) → (names : List (List ℕ)) (e : Node EntryName) → Has names (OfSpace e) (common_row r n)
      → HasSpaceLike r.units i names e
  space_common n f nth i user names e h =
      let o = map_has part_name (row_before n) names (OfSpace e) h in
      go o.item o.has o.is
    where
      go : (x : Item) → Has names x (row_before n) → item_map part_name x ≡ OfSpace e → HasSpaceLike r.units i names e
      go (OfTop c) has is = absurd (let z = is in cc)
      go (OfSpace d) has is =
          let takes = taker r fixed fx i n user in
          let fit = fits i n takes in
          let u = unit_row (together r) (length r.units + n) f (common_unit n f nth) (re.whole n f nth) in
          let under = item_under f.file (length r.units + n) (language f.unit) [] u.first (row_before n) f.unit.below u.is names (OfSpace d) has in
          let text = kind_in (row_before n) (common_kinded n f nth) names (OfSpace d) has in
          let e_is : node_map part_name d ≡ e = (let z = is in cc) in
          let space : IsSpace (names ++ text.0 ∷ []) d f.unit.below = record { outer = names; text = text.0; under = under; own = text.1; names_are = refl } in
          let own_space = fit.spaces (names ++ text.0 ∷ []) (f, d, nth, space) in
          let g = own_space.0 in
          let k = own_space.3 in
          let same = last_same names k.outer text.0 k.text k.names_are in
          let l = fit.tops fit.some.0 fit.some.1 in
          let unit = unit_of r.units l.top l.there in
          let compile : g.unit.kind ≡ Compile =
          ap (λ (w : FileUnit EntryName). w.unit.kind) (nth_one 0 r.units i g unit.unit own_space.2 (subst (λ (w : ℕ). Nth 0 r.units w unit.unit) l.unit_is unit.nth)) ∙ unit.compile in
          let s = space_there i g own_space.2 compile names own_space.1 (subst (λ (w : List (List ℕ)). IsUnder w own_space.1 g.unit.below) (sym same.0) k.under) k.text k.own in
          (s.0, s.1, s.2 ∙ ap (λ (w : List ℕ). Some w) (sym same.1) ∙ sym text.1 ∙ sym (text_map part_name d) ∙ ap space_text e_is)

  space_file : (n : ℕ) (part : PartialUnit) → In part locals → m.rows n ≡ part_row n part → (i : ℕ) → In i part.users → (names : List (List ℕ)) (e : Node EntryName) → Has names (OfSpace e) (m.rows n)
      → HasSpaceLike r.units i names e
  space_file n part there rows i user names e h =
      let o = (part_is n part).spaces_are names e (subst (λ (w : Row). Has names (OfSpace e) w) rows h) in
      let t = file_like part there i user o.top o.there in
      let at = subst (λ (w : ℕ). Has (names ++ o.name.text ∷ o.others) (OfTop t.top) (rows_of_root r.units w)) t.unit_is
      (subst (λ (w : List (List ℕ)). Has w (OfTop t.top) (rows_of_root r.units t.top.unit)) (t.names_are ∙ o.names_are) (stands_at t.top t.there)) in
      let d = space_before (rows_of_root r.units i) names o.name.text o.others (OfTop t.top) at in
      (d.0, d.1, d.2 ∙ sym (ap space_text o.is ∙ entry_text n o.chain o.depth o.name))

  space_in : (n : ℕ) (part : PartialUnit) → Nth 0 m.parts n part → (i : ℕ) → In i part.users → (names : List (List ℕ)) (e : Node EntryName) → Has names (OfSpace e) (m.rows n)
      → HasSpaceLike r.units i names e
  space_in n part nth i user names e h = go (part_kind n part nth) where
    go : PartIs n part → HasSpaceLike r.units i names e
    go (OfCommon f c is rows) = space_common n f c i (subst (λ (w : PartialUnit). In i w.users) is user) names e (subst (λ (w : Row). Has names (OfSpace e) w) rows h)
    go (OfFile there rows) = space_file n part there rows i user names e h

  kinds_in : (n : ℕ) (part : PartialUnit) → Nth 0 m.parts n part → Kinded (m.rows n)
  kinds_in n part nth = go (part_kind n part nth) where
    go : PartIs n part → Kinded (m.rows n)
    go (OfCommon f c is rows) = subst Kinded (sym rows) (kinded_map part_name (row_before n) (common_kinded n f c))
    go (OfFile there rows) = subst Kinded (sym rows) (part_row_kinded n part (λ t is. top_plain r.units t (((file_part part there).tops t).0 is).there))

  pub over_serves : Serves r.units (copied r (move_over r fixed files))
  over_serves = record { held = held_in; used = used_in; spaces = space_in; kinds = kinds_in; apart = apart_in }
