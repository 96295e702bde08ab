-- References of all that stands after over a finished common file name entries.
use Rattle.std.proofs.Common.{◌≡◌, ℕ, ◌+◌, ◌≤◌, ◌||◌, true, List, [], ◌∷◌, ◌++◌, length, map, Option, Some, None, refl, sym, ap, subst, ◌∙◌, inl, inr, arith}
use Rattle.std.specs.Prelude.{unwrap_or}
use Rattle.std.specs.Option.{is_some, option_map}
use Rattle.std.proofs.lemmas.Option.{slice_get_past}
use Rattle.dwz_def_reading.specs.Documents.{language, Attr, Doc, DwUnit, Node, attr_map, unit_map}
use Rattle.dwz_def_reading.specs.Lists.{In}
use Rattle.dwz_def_reading.specs.Trees.{End}
use Rattle.dwz_def_reading.proofs.ListFacts.{in_cases, in_left, in_map}
use Rattle.dwz_def_tops.specs.Lists.{Nth}
use Rattle.dwz_def_tops.specs.Seen.{Closed, Named, Seen, all_seen, named_value, see, seen, seen_below, seen_map, seen_roots}
use Rattle.dwz_def_tops.proofs.Members.{each_in, in_map_from, in_nth, nth_from, nth_in, nth_one}
use Rattle.dwz_def_tops.proofs.SeenLemmas.{entry_seen, root_from, root_seen, seen_entries, seen_from}
use Rattle.dwz_def_tops.proofs.ShownLemmas.{closed_shown, map_shown}
use Rattle.dwz_def_tops.specs.Spots.{EntryName, FileUnit, LabelledTop, Row, Top, Within, file_numbers, name_list, rows_of_root, tops_of, in_file, named_files, named_in, spot_in}
use Rattle.dwz_def_tops.proofs.RowLemmas.{unit_row}
use Rattle.dwz_def_tops.proofs.Tops.{unit_of}
use Rattle.dwz_def_images.specs.Homes.{moves}
use Rattle.dwz_def_images.specs.IsPlan.{IsPart}
use Rattle.dwz_def_images.specs.Moves.{Move, image_in, seen_top, part_at, root_in_part, row_in_part}
use Rattle.dwz_def_images.specs.Plan.{PartialUnit, image_by, part_row, partials, stand_in}
use Rattle.dwz_def_images.proofs.PartRows.{part_is}
use Rattle.dwz_def_images.proofs.PlanLemmas.{are_parts, has_rep}
use Rattle.dwz_def_images.proofs.UserLemmas.{moves_self, rep_is, stands_same}
use Rattle.dwz_def_images.specs.After.{AreAfter}
use Rattle.dwz_def_images.specs.Held.{Kinded, NameNone}
use Rattle.dwz_def_images.specs.Images.{units_in}
use Rattle.dwz_def_images.specs.Units.{all_units, common_units, file_units, partial_unit, tree}
use Rattle.dwz_def_images.proofs.ClosedLemmas.{none_seen}
use Rattle.dwz_def_images.proofs.FileLemmas.{files_are}
use Rattle.dwz_def_images.proofs.HeldLemmas.{part_found, root_none}
use Rattle.dwz_def_images.proofs.KindLemmas.{part_row_kinded, top_plain}
use Rattle.dwz_def_images.proofs.OldFiles.{closed_append, filed_units, units_append}
use Rattle.dwz_def_tops.proofs.FiledTops.{nth_cases}
use Rattle.dwz_def_images.proofs.TreeLemmas.{Behind, OfASpace, OfATop, TreeOrigin, seen_top_map, tree_origin, tree_seen}
use Rattle.dwz_def_images.proofs.OldLemmas.{top_at}
use Rattle.dwz_def_images.proofs.OldRows.{raw_seen, raw_top}
use Rattle.dwz_def_taken.specs.declared.fixed.Fixed.{Fixed}
use Rattle.dwz_def_taken.specs.Beside.{Reused, as_compile, reused_of, together}
use Rattle.dwz_def_taken.specs.Laws.{ArePlacedOver, IsReused}
use Rattle.dwz_def_taken.specs.Over.{as_part, as_partial, common_parts, common_root, common_row, move_over, standing_unit}
use Rattle.dwz_def_taken.specs.Takes.{IsFixed, free_rule, free_test, image_at}
use Rattle.dwz_def_taken.proofs.AfterOver.{after_over}
use Rattle.dwz_def_taken.proofs.ClosedUnits.{from_none, from_top, units_closed}
use Rattle.dwz_def_taken.proofs.CommonParts.{common_nth, length-common}
use Rattle.dwz_def_taken.proofs.CommonUnits.{common_stands, stands_as}
use Rattle.dwz_def_taken.proofs.NamesOver.{common_spots, named_over}
use Rattle.dwz_def_taken.proofs.OverLemmas.{fair, free_none, free_two, image_is, moving_seen, stand, taken_seen}
use Rattle.dwz_def_taken.proofs.PlaceLemmas.{nth_move, nth_right, part_nth}
use Rattle.dwz_def_taken.proofs.StandingUnits.{standing}

-- ---- what is seen of units

roots_partial : {P : Type 0} (units : List (DwUnit P)) → seen_roots (map as_partial units) ≡ seen_roots units
unfolding seen_roots
roots_partial [] = refl
roots_partial {P} (u ∷ units) = ap (λ (w : List (Seen P)). see u.root u.below ∷ w) (roots_partial units)

below_partial : {P : Type 0} (units : List (DwUnit P)) → seen_below (map as_partial units) ≡ seen_below units
unfolding seen_below
below_partial [] = refl
below_partial {P} (u ∷ units) = ap (λ (w : List (Seen P)). seen u.below ++ w) (below_partial units)

all_partial : {P : Type 0} (units : List (DwUnit P)) → all_seen (map as_partial units) ≡ all_seen units
all_partial units = λ i. roots_partial units i ++ below_partial units i

seen_more : (us vs : List (DwUnit EntryName)) → ((u : DwUnit EntryName) → In u us → In u vs) → (d : Seen EntryName) → In d (all_seen us) → In d (all_seen vs)
seen_more us vs more d is = elim (in_cases d (seen_roots us) (seen_below us) is) [
  | inl a ↦ (let o = root_from us d a in subst (λ (w : Seen EntryName). In w (all_seen vs)) o.is (root_seen vs o.unit (more o.unit o.there)))
  | inr b ↦ (let o = seen_from us d b in entry_seen vs o.unit d (more o.unit o.there) o.is)
]

none_closed : Closed {P = EntryName} []
unfolding seen_roots seen_below
none_closed = λ e a q is attr ref. absurd is

-- ---- the roots of partial units of files name nothing

module _ (docs : List (Doc ℕ)) (common : Doc ℕ) (fixed : Fixed) (p : ArePlacedOver docs common) (fx : IsFixed (reused_of docs common) fixed) where
  abbrev r : Reused
  r = reused_of docs common

  abbrev files : List ℕ
  files = file_numbers 0 docs

  abbrev m : Move
  m = move_over (reused_of docs common) fixed (file_numbers 0 docs)

  abbrev all : List (DwUnit EntryName)
  all = all_units (move_over (reused_of docs common) fixed (file_numbers 0 docs)) (reused_of docs common).units (file_numbers 0 docs)

  abbrev firsts : List PartialUnit
  firsts = common_parts (reused_of docs common) fixed 0 (reused_of docs common).commons

  abbrev locals : List PartialUnit
  locals = partials (free_rule (reused_of docs common) fixed) (reused_of docs common).units (file_numbers 0 docs)

  re : IsReused r
  re = named_over docs common p

  after : AreAfter m r.units all
  after = after_over docs common fixed p fx

  -- ---- the common file

  abbrev standing_all : List (DwUnit EntryName)
  standing_all = map (standing_unit (reused_of docs common)) (reused_of docs common).commons

  commons_closed : Closed (units_in r.commons)
  unfolding named_files
  commons_closed =
      let spots = common_spots docs common in
      let units = map as_compile common.units in
      let names = named_in spots units in
      let own = closed_shown (spot_in spots) units names (map_shown (spot_in spots) units) p.parts.closed in
      subst Closed (sym (units_append (map (in_file (length docs)) names) [] ∙ ap (λ (w : List (DwUnit EntryName)). w ++ []) (filed_units (length docs) names)))
      (closed_append names [] own none_closed)

  standing_is : (some : List (FileUnit EntryName)) → map (standing_unit r) some ≡ map as_partial (map (unit_map (as_part (length r.units))) (units_in some))
  standing_is [] = refl
  standing_is (f ∷ some) = ap (λ (w : List (DwUnit EntryName)). standing_unit r f ∷ w) (standing_is some)

  abbrev AreClosed : List (Seen EntryName) → Type 0
  AreClosed es = (e : Seen EntryName) (a : Named EntryName) (q : EntryName) → In e es → In a e.attrs → In q a.value.refs → (d : Seen EntryName) × In d es × (d.at ≡ q)

  standing_closed : Closed standing_all
  standing_closed =
      let named = map (unit_map (as_part (length r.units))) (units_in r.commons) in
      let closed = closed_shown (as_part (length r.units)) (units_in r.commons) named (map_shown (as_part (length r.units)) (units_in r.commons)) commons_closed in
      subst AreClosed (sym (ap (λ (w : List (DwUnit EntryName)). all_seen w) (standing_is r.commons) ∙ all_partial named)) closed

  standing_there : (u : DwUnit EntryName) → In u standing_all → In u all
  standing_there u there = in_left u (common_units m) (file_units m r.units files) (subst (In u) (sym (common_stands docs common fixed p fx)) there)

  abbrev InUnit : Seen EntryName → DwUnit EntryName → Type 0
  InUnit e v = In e (see v.root v.below ∷ seen v.below)

  abbrev Goes : Seen EntryName → Type 0
  Goes e = (a : Named EntryName) (q : EntryName) → In a e.attrs → In q a.value.refs → (d : Seen EntryName) × In d (all_seen all) × (d.at ≡ q)

  common_closes : (n : ℕ) (part : PartialUnit) → Nth 0 firsts n part → (e : Seen EntryName) → InUnit e (partial_unit m n) → Goes e
  common_closes n part nth e is a q attr ref =
      let k = common_nth r fixed 0 r.commons n part nth in
      let f = k.0 in
      let unit = standing_unit r f in
      let same : partial_unit m n ≡ unit = standing r fixed files n f (stands_as docs common fixed p fx n f k.1) in
      let there = in_map (standing_unit r) f r.commons (nth_in 0 r.commons n f k.1) in
      let seen_there : In e (all_seen standing_all) = elim (subst (InUnit e) same is) [
        | inl x ↦ subst (λ (w : Seen EntryName). In w (all_seen standing_all)) x (root_seen standing_all unit there)
        | inr y ↦ entry_seen standing_all unit e there y
      ] in
      let o = standing_closed e a q seen_there attr ref in
      (o.0, seen_more standing_all all standing_there o.0 o.1, o.2)

  -- ---- partial units of files

  pub local_rows : (n : ℕ) (part : PartialUnit) → Nth 0 (firsts ++ locals) n part → length r.commons ≤ n → m.rows n ≡ part_row n part
  local_rows n part nth low =
      ap (λ (o : Option (FileUnit EntryName)). unwrap_or (option_map (λ f. common_row r n) o) (row_in_part n (part_at n (firsts ++ locals)))) (slice_get_past r.commons n low)
      ∙ ap (row_in_part n) (part_found 0 (firsts ++ locals) n n part nth (omega arith))

  -- ---- what stands for a top that is gone

  abbrev stand_one : ℕ → ℕ
  stand_one = stand (reused_of docs common) fixed (file_numbers 0 docs) (named_over docs common p) fx

  -- the entry at the path of another top that is seen the same, where copies are one
  record AtPath (t u : Top) (d : Seen EntryName) : Type 0 where
    entry : Seen EntryName
    there : In entry (raw_top u)
    path : List ℕ
    own : d.at ≡ Within t.number path
    at : entry.at ≡ Within u.number path

  at_path : (s : ℕ → ℕ) (t u : Top) → LabelledTop t → LabelledTop u → seen_top (image_by s) t ≡ seen_top (image_by s) u → (d : Seen EntryName) → In d (raw_top t) → AtPath t u d
  at_path s t u l k same d is =
      let f : EntryName → EntryName = image_by s in
      let here = in_map (seen_map f) d (raw_top t) is in
      let o = in_map_from (seen_map f) (seen_map f d) (raw_top u)
      (subst (λ (w : List (Seen EntryName)). In (seen_map f d) w) (sym (seen_top_map f t) ∙ same ∙ seen_top_map f u) here) in
      let x = top_at t l d is in
      let y = top_at u k o.source o.there in
      let images : f o.source.at ≡ f d.at = ap (λ (w : Seen EntryName). w.at) o.is in
      let both : Within (s u.number) y.path ≡ Within (s t.number) x.path = sym (ap f y.is) ∙ images ∙ ap f x.is in
      let paths : y.path ≡ x.path = (let z = both in cc) in
      record { entry = o.source; there = o.there; path = x.path; own = x.is; at = y.is ∙ ap (Within u.number) paths }

  taken_there : (t : Top) → In t (tops_of r.units) → (c : ℕ) → image_at fixed t.number ≡ Some c → (d : Seen EntryName) → In d (raw_top t)
      → (e : Seen EntryName) × In e (all_seen all) × (e.at ≡ image_in m d.at)
  taken_there t there c e d is =
      let im = image_is r fixed files re fx t there c e in
      let top = im.top in
      let same = taken_seen r fixed files re fx t top there im.taken in
      let x = at_path stand_one t top (re.own.tops_named t there) (re.all.tops_named top im.taken.in_part.0) same d is in
      let o = unit_of (together r) top im.taken.in_part.0 in
      let row = unit_row (together r) top.unit o.unit o.nth o.compile in
      let below = raw_seen o.unit.file top.unit (language o.unit.unit) [] row.first (rows_of_root (together r) top.unit) o.unit.unit.below row.is top o.in_row x.entry x.there in
      let k = part_nth r re im.taken.part top im.taken.in_part in
      let unit_is : o.unit ≡ k.0 = nth_one 0 (together r) top.unit o.unit k.0 o.nth k.2 in
      let first = as_part (length r.units) in
      let entry = seen_map first x.entry in
      let in_unit : In entry (seen (standing_unit r k.0).below) = subst (λ (w : List (Seen EntryName)). In entry w) (sym (seen_entries first k.0.unit.below))
      (in_map (seen_map first) x.entry (seen k.0.unit.below) (subst (λ (w : FileUnit EntryName). In x.entry (seen w.unit.below)) unit_is below)) in
      let unit_there = standing_there (standing_unit r k.0) (in_map (standing_unit r) k.0 r.commons (nth_in 0 r.commons im.taken.part k.0 k.1)) in
      let stands : m.stand t.number ≡ c = ap (λ (w : Option ℕ). unwrap_or w (stand_in (free_rule r fixed) r.units t.number)) e in
      let at : entry.at ≡ image_in m d.at = ap first x.at ∙ ap (λ (n : ℕ). Within n x.path) (im.number ∙ sym stands) ∙ ap (image_in m) (sym x.own) in
      (entry, entry_seen all (standing_unit r k.0) entry unit_there in_unit, at)

  moved_there : (t : Top) → In t (tops_of r.units) → image_at fixed t.number ≡ None → moves (free_rule r fixed) r.units t.number ≡ true → (d : Seen EntryName) → In d (raw_top t)
      → (e : Seen EntryName) × In e (all_seen all) × (e.at ≡ image_in m d.at)
  moved_there t there none mv d is =
      let rule = free_rule r fixed in
      let fair_is = fair r fixed files re fx in
      let k = has_rep rule r.units fair_is files (files_are docs) t there mv in
      let self = moves_self r.units rule fair_is t.number mv in
      let same : free_test r fixed t.number k.top.number ≡ true = ap (free_test r fixed t.number) k.is_rep ∙ (rep_is (free_test r fixed) r.units t.number t there self).alike_is in
      let two = free_two r fixed files re fx t.number k.top.number same in
      let part_fits = each_in (IsPart rule r.units) k.part locals (are_parts rule r.units files) k.there in
      let top_there = ((part_fits.tops k.top).0 k.holds).there in
      let seen_same = moving_seen r fixed files re fx t k.top there top_there mv same in
      let x = at_path stand_one t k.top (re.own.tops_named t there) (re.own.tops_named k.top top_there) seen_same d is in
      let n = in_nth 0 locals k.part k.there in
      let number : ℕ = length firsts + n.number in
      let nth : Nth 0 (firsts ++ locals) number k.part = nth_right 0 firsts locals number k.part (nth_move 0 (0 + length firsts) locals n.number number k.part n.nth (omega arith)) in
      let rows = local_rows number k.part nth (omega (arith, length-common r fixed 0 r.commons)) in
      let f : EntryName → EntryName = image_in m in
      let entry = seen_map f x.entry in
      let has = ((part_is number k.part).tops_are (name_list k.top) k.top).1 (k.holds, refl) in
      let in_tree = tree_seen f (part_row number k.part) End (name_list k.top) k.top has entry
      (subst (λ (w : List (Seen EntryName)). In entry w) (sym (seen_top_map f k.top)) (in_map (seen_map f) x.entry (raw_top k.top) x.there)) in
      let in_unit : In entry (seen (partial_unit m number).below) = subst (λ (w : Row). In entry (seen (tree f w End))) (sym rows) in_tree in
      let own : m.stand k.top.number ≡ m.stand t.number =
      ap (λ (w : Option ℕ). unwrap_or w (stand_in rule r.units k.top.number)) (free_none r fixed files re fx k.top.number two.second)
      ∙ sym (stands_same r.units rule fair_is t.number k.top.number t there refl same mv) ∙ sym (ap (λ (w : Option ℕ). unwrap_or w (stand_in rule r.units t.number)) none) in
      let at : entry.at ≡ image_in m d.at = ap f x.at ∙ ap (λ (w : ℕ). Within w x.path) own ∙ ap f (sym x.own) in
      (entry, entry_seen all (partial_unit m number) entry (after.new number k.part nth) in_unit, at)

  gone_there : (t : Top) → In t (tops_of r.units) → m.gone t.number ≡ true → (d : Seen EntryName) → In d (raw_top t) → (e : Seen EntryName) × In e (all_seen all) × (e.at ≡ image_in m d.at)
  gone_there t there gone d is = go (image_at fixed t.number) refl gone where
    go : (o : Option ℕ) → image_at fixed t.number ≡ o → (is_some (image_at fixed t.number) || moves (free_rule r fixed) r.units t.number) ≡ true
        → (e : Seen EntryName) × In e (all_seen all) × (e.at ≡ image_in m d.at)
    go (Some c) q h = taken_there t there c q d is
    go None q h = moved_there t there q (subst (λ (o : Option ℕ). (is_some o || moves (free_rule r fixed) r.units t.number) ≡ true) q h) d is

  local_root : (n : ℕ) → length r.commons ≤ n → NameNone (map named_value (m.roots n))
  local_root n low =
      let is : m.roots n ≡ root_in_part r.units (part_at n (firsts ++ locals)) =
      ap (λ (o : Option (FileUnit EntryName)). unwrap_or (option_map (common_root r) o) (root_in_part r.units (part_at n (firsts ++ locals)))) (slice_get_past r.commons n low) in
      subst (λ (w : List (Attr EntryName)). NameNone (map named_value w)) (sym is) (root_none r.units (part_at n (firsts ++ locals)))

  local_closes : (n : ℕ) (part : PartialUnit) → Nth 0 (firsts ++ locals) n part → length r.commons ≤ n → In part locals → (e : Seen EntryName) → InUnit e (partial_unit m n) → Goes e
  local_closes n part nth low there e (inl x) =
      from_none r.units m re.own all after gone_there e (subst NameNone (ap (λ (w : Seen EntryName). w.attrs) x) (local_root n low))
  local_closes n part nth low there e (inr y) = go (tree_origin g (part_row n part) End kinded e (subst (λ (w : Row). In e (seen (tree g w End))) rows y)) where
    g : EntryName → EntryName
    g = image_in m

    rows : m.rows n ≡ part_row n part
    rows = local_rows n part nth low

    is : IsPart (free_rule r fixed) r.units part
    is = each_in (IsPart (free_rule r fixed) r.units) part locals (are_parts (free_rule r fixed) r.units files) there

    kinded : Kinded (part_row n part)
    kinded = part_row_kinded n part (λ t in_part. top_plain r.units t ((is.tops t).0 in_part).there)

    go : TreeOrigin (image_in m) (part_row n part) End e → Goes e
    go (OfATop names t has x) = from_top r.units m re.own all after gone_there t ((is.tops t).0 (((part_is n part).tops_are names t).0 has).0).there e x
    go (OfASpace names d has attrs) =
        let o = (part_is n part).spaces_are names d has in
        let none : NameNone (map named_value (map (attr_map g) d.attrs)) = subst (λ (w : Node EntryName). NameNone (map named_value (map (attr_map g) w.attrs))) (sym o.is) (refl, tt) in
        from_none r.units m re.own all after gone_there e (subst NameNone (sym attrs) none)
    go (Behind x) = absurd (none_seen e x)

  pub over_closed : Closed all
  over_closed = units_closed r.units m re.own all after gone_there (λ n part nth e is. elim (nth_cases 0 firsts locals n part nth) [
    | inl a ↦ common_closes n part a e is
    | inr b ↦
        let from = nth_from (0 + length firsts) locals n part b in
        local_closes n part nth (omega (arith, from, length-common r fixed 0 r.commons)) (nth_in (0 + length firsts) locals n part b) e is
  ])
