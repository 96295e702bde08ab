-- Over a finished common file the images of what stood in a file stand in the file, or in the common one.
use Rattle.std.proofs.Common.{◌≡◌, ℕ, ◌+◌, length, true, List, [], ◌++◌, refl, sym, ap, subst, ◌∙◌, arith, inl, inr}
use Rattle.dwz_def_reading.specs.Documents.{Doc, DwUnit, language}
use Rattle.dwz_def_reading.specs.Lists.{In}
use Rattle.dwz_def_reading.specs.Trees.{End}
use Rattle.dwz_def_reading.proofs.ListFacts.{in_left, in_map, in_right}
use Rattle.dwz_def_tops.specs.Lists.{Nth}
use Rattle.dwz_def_tops.specs.Seen.{Seen, all_seen, seen, seen_map}
use Rattle.dwz_def_tops.proofs.Members.{each_in, in_map_from, in_nth, nth_in, nth_one}
use Rattle.dwz_def_tops.proofs.SeenLemmas.{entry_seen, seen_entries}
use Rattle.dwz_def_tops.specs.Spots.{FileUnit, EntryName, Top, name_list, rows_of_root, tops_of, units_of, LabelledTop, Row, Within, file_numbers}
use Rattle.dwz_def_tops.proofs.RowLemmas.{unit_row}
use Rattle.dwz_def_tops.proofs.Tops.{unit_of}
use Rattle.dwz_def_images.specs.Homes.{Common, Home, Local, Rule, Stay, file_of, is_home, moves, users}
use Rattle.dwz_def_images.specs.IsPlan.{IsHome, IsPart}
use Rattle.dwz_def_images.specs.Moves.{Move, image_in, seen_top}
use Rattle.dwz_def_images.specs.Plan.{PartialUnit, image_by, part_row, stand_in, partials}
use Rattle.dwz_def_images.proofs.HomeLemmas.{home_is, file_of_top}
use Rattle.dwz_def_images.proofs.PlanLemmas.{are_parts, has_rep}
use Rattle.dwz_def_images.proofs.PartRows.{part_is}
use Rattle.dwz_def_images.proofs.UserLemmas.{moving, moves_self, rep_is, stands_same, used}
use Rattle.dwz_def_images.specs.After.{AreOld}
use Rattle.dwz_def_images.specs.Units.{common_units, kept_unit, kept_units, out_units, partial_unit, partial_units, tree}
use Rattle.dwz_def_images.proofs.OldRows.{raw_seen, raw_top}
use Rattle.dwz_def_images.proofs.TreeLemmas.{seen_top_map, tree_seen}
use Rattle.dwz_def_readback.proofs.WithinLemmas.{kept_to, parts_to}
use Rattle.dwz_def_images.proofs.FileLemmas.{files_are}
use Rattle.dwz_def_tops.proofs.FiledTops.{nth_cases}
use Rattle.dwz_def_images.proofs.OldLemmas.{top_at}
use Rattle.dwz_def_taken.proofs.CommonUnits.{common_stands, not_shared}
use Rattle.dwz_def_taken.proofs.CommonParts.{common_nth, length-common}
use Rattle.dwz_def_taken.proofs.ClosedOver.{local_rows}
use Rattle.dwz_def_taken.proofs.OverLemmas.{fair, free_none, free_two, image_is, moving_seen, stand, taken_seen}
use Rattle.dwz_def_taken.proofs.PlaceLemmas.{nth_move, nth_right, part_nth}
use Rattle.dwz_def_taken.specs.Beside.{Reused, reused_of, together}
use Rattle.dwz_def_taken.specs.Over.{as_part, common_parts, move_over, standing_unit}
use Rattle.dwz_def_taken.specs.Takes.{IsFixed, free_rule, free_test, image_at}
use Rattle.std.specs.Prelude.{unwrap_or, ◌||◌, Option, Some, None}
use Rattle.std.specs.Option.{is_some}
use Rattle.dwz_def_taken.specs.Laws.{ArePlacedOver, IsReused}
use Rattle.dwz_def_taken.specs.declared.fixed.Fixed.{Fixed}
use Rattle.dwz_def_taken.proofs.NamesOver.{named_over}

module _ (docs : List (Doc ℕ)) (common : Doc ℕ) (fixed : Fixed) (p : ArePlacedOver docs common) (fx : IsFixed (reused_of docs common) fixed) (file : ℕ) where
  abbrev r : Reused
  r = reused_of docs common

  abbrev units : List (FileUnit EntryName)
  units = units_of docs

  abbrev files : List ℕ
  files = file_numbers 0 docs

  abbrev m : Move
  m = move_over (reused_of docs common) fixed (file_numbers 0 docs)

  abbrev rule : Rule
  rule = free_rule (reused_of docs common) fixed

  abbrev firsts : List PartialUnit
  firsts = common_parts (reused_of docs common) fixed 0 (reused_of docs common).commons

  abbrev locals : List PartialUnit
  locals = partials (free_rule (reused_of docs common) fixed) (units_of docs) (file_numbers 0 docs)

  re : IsReused r
  re = named_over docs common p

  old : AreOld units
  old = re.own

  abbrev f : EntryName → EntryName
  f = image_in m

  -- what stands in the common file, and in the file
  abbrev pub outs_of : List (DwUnit EntryName)
  outs_of = common_units m ++ out_units m units file

  pub kept_in : (i : ℕ) (u : FileUnit EntryName) → Nth 0 units i u → u.file ≡ file → In (kept_unit m units i u) outs_of
  unfolding out_units
  kept_in i u nth e =
      in_right (kept_unit m units i u) (common_units m) (partial_units m (Local file) 0 m.parts ++ kept_units m units file 0 units)
      (in_right (kept_unit m units i u) (partial_units m (Local file) 0 m.parts) (kept_units m units file 0 units) (kept_to m units file 0 units i u nth e))

  -- a unit of the common file
  standing_in : (k : FileUnit EntryName) → In k r.commons → In (standing_unit r k) outs_of
  standing_in k there =
      in_left (standing_unit r k) (common_units m) (out_units m units file)
      (subst (In (standing_unit r k)) (sym (common_stands docs common fixed p fx)) (in_map (standing_unit r) k r.commons there))

  -- a partial unit of a file whose units use it
  local_in : (n : ℕ) (part : PartialUnit) → Nth 0 m.parts n part → In part locals → (i : ℕ) → In i part.users → file_of units i ≡ file → In (partial_unit m n) outs_of
  unfolding out_units
  local_in n part nth there i user e = by part.home refl found where
    is : IsPart rule units part
    is = each_in (IsPart rule units) part locals (are_parts rule units files) there

    found : IsHome units part.users part.home
    found =
        let t = is.some.0 in
        let b = (is.tops t).0 is.some.1 in
        let moved : moves rule units t.number ≡ true = ap is_home b.home ∙ is.moves in
        let own = subst (IsHome units (users rule.alike units t.number)) (sym (moving units rule t.number moved).at_home ∙ b.home) (home_is rule.alike units t.number) in
        subst (λ (us : List ℕ). IsHome units us part.home) b.users own

    by : (h : Home) → part.home ≡ h → IsHome units part.users h → In (partial_unit m n) outs_of
    by Common q is_at = absurd (not_shared docs common fixed p fx part there q)
    by (Local own) q is_at =
        (let same : own ≡ file = sym (is_at.5 i user) ∙ e in
        in_right (partial_unit m n) (common_units m) (partial_units m (Local file) 0 m.parts ++ kept_units m units file 0 units)
        (in_left (partial_unit m n) (partial_units m (Local file) 0 m.parts) (kept_units m units file 0 units) (parts_to m (Local file) 0 m.parts n part nth (q ∙ ap (λ (x : ℕ). Local x) same))))
    by Stay q is_at = absurd (let no = sym (ap is_home q) ∙ is.moves in cc)

  -- a partial unit that a unit of the file uses
  pub new_in : (n : ℕ) (part : PartialUnit) → Nth 0 m.parts n part → (i : ℕ) → In i part.users → file_of units i ≡ file → In (partial_unit m n) outs_of
  unfolding common_units
  new_in n part nth i user e = elim (nth_cases 0 firsts locals n part nth) [
    | inl a ↦ in_left (partial_unit m n) (partial_units m Common 0 m.parts) (out_units m units file)
        (parts_to m Common 0 m.parts n part nth (ap (λ (w : PartialUnit). w.home) (common_nth r fixed 0 r.commons n part a).2))
    | inr b ↦ local_in n part nth (nth_in (0 + length firsts) locals n part b) i user e
  ]

  -- ---- the images of what stood in the file

  abbrev pub Stands : EntryName → Type 0
  Stands q = (d : Seen EntryName) × In d (all_seen outs_of) × (d.at ≡ q)

  abbrev stand_one : ℕ → ℕ
  stand_one = stand (reused_of docs common) fixed (file_numbers 0 docs) (named_over docs common p) fx

  -- the entry at the path of another top that is seen the same, where copies are one
  record AtPath (t u : Top) (d : Seen EntryName) : Type 0 where
    entry : Seen EntryName
    there : In entry (raw_top u)
    path : List ℕ
    own : d.at ≡ Within t.number path
    at : entry.at ≡ Within u.number path

  at_path : (s : ℕ → ℕ) (t u : Top) → LabelledTop t → LabelledTop u → seen_top (image_by s) t ≡ seen_top (image_by s) u → (d : Seen EntryName) → In d (raw_top t) → AtPath t u d
  at_path s t u l k same d is =
      let f : EntryName → EntryName = image_by s in
      let here = in_map (seen_map f) d (raw_top t) is in
      let o = in_map_from (seen_map f) (seen_map f d) (raw_top u)
      (subst (λ (w : List (Seen EntryName)). In (seen_map f d) w) (sym (seen_top_map f t) ∙ same ∙ seen_top_map f u) here) in
      let x = top_at t l d is in
      let y = top_at u k o.source o.there in
      let images : f o.source.at ≡ f d.at = ap (λ (w : Seen EntryName). w.at) o.is in
      let both : Within (s u.number) y.path ≡ Within (s t.number) x.path = sym (ap f y.is) ∙ images ∙ ap f x.is in
      let paths : y.path ≡ x.path = (let z = both in cc) in
      record { entry = o.source; there = o.there; path = x.path; own = x.is; at = y.is ∙ ap (Within u.number) paths }

  taken_there : (t : Top) → In t (tops_of units) → (c : ℕ) → image_at fixed t.number ≡ Some c → (d : Seen EntryName) → In d (raw_top t) → Stands (f d.at)
  taken_there t there c e d is =
      let im = image_is r fixed files re fx t there c e in
      let top = im.top in
      let same = taken_seen r fixed files re fx t top there im.taken in
      let x = at_path stand_one t top (re.own.tops_named t there) (re.all.tops_named top im.taken.in_part.0) same d is in
      let o = unit_of (together r) top im.taken.in_part.0 in
      let row = unit_row (together r) top.unit o.unit o.nth o.compile in
      let below = raw_seen o.unit.file top.unit (language o.unit.unit) [] row.first (rows_of_root (together r) top.unit) o.unit.unit.below row.is top o.in_row x.entry x.there in
      let k = part_nth r re im.taken.part top im.taken.in_part in
      let unit_is : o.unit ≡ k.0 = nth_one 0 (together r) top.unit o.unit k.0 o.nth k.2 in
      let first = as_part (length r.units) in
      let entry = seen_map first x.entry in
      let in_unit : In entry (seen (standing_unit r k.0).below) = subst (λ (w : List (Seen EntryName)). In entry w) (sym (seen_entries first k.0.unit.below))
      (in_map (seen_map first) x.entry (seen k.0.unit.below) (subst (λ (w : FileUnit EntryName). In x.entry (seen w.unit.below)) unit_is below)) in
      let stands : m.stand t.number ≡ c = ap (λ (w : Option ℕ). unwrap_or w (stand_in (free_rule r fixed) units t.number)) e in
      let at : entry.at ≡ f d.at = ap first x.at ∙ ap (λ (n : ℕ). Within n x.path) (im.number ∙ sym stands) ∙ ap f (sym x.own) in
      (entry, entry_seen outs_of (standing_unit r k.0) entry (standing_in k.0 (nth_in 0 r.commons im.taken.part k.0 k.1)) in_unit, at)

  moved_there : (t : Top) → In t (tops_of units) → t.file ≡ file → image_at fixed t.number ≡ None → moves (free_rule r fixed) units t.number ≡ true → (d : Seen EntryName) → In d (raw_top t)
      → Stands (f d.at)
  moved_there t there of_file none mv d is =
      let fair_is = fair r fixed files re fx in
      let k = has_rep rule units fair_is files (files_are docs) t there mv in
      let self = moves_self units rule fair_is t.number mv in
      let same : free_test r fixed t.number k.top.number ≡ true = ap (free_test r fixed t.number) k.is_rep ∙ (rep_is (free_test r fixed) units t.number t there self).alike_is in
      let two = free_two r fixed files re fx t.number k.top.number same in
      let part_fits = each_in (IsPart rule units) k.part locals (are_parts rule units files) k.there in
      let top_there = ((part_fits.tops k.top).0 k.holds).there in
      let seen_same = moving_seen r fixed files re fx t k.top there top_there mv same in
      let x = at_path stand_one t k.top (re.own.tops_named t there) (re.own.tops_named k.top top_there) seen_same d is in
      let n = in_nth 0 locals k.part k.there in
      let number : ℕ = length firsts + n.number in
      let nth : Nth 0 (firsts ++ locals) number k.part = nth_right 0 firsts locals number k.part (nth_move 0 (0 + length firsts) locals n.number number k.part n.nth (omega arith)) in
      let rows = local_rows docs common fixed p fx number k.part nth (omega (arith, length-common r fixed 0 r.commons)) in
      let entry = seen_map f x.entry in
      let has = ((part_is number k.part).tops_are (name_list k.top) k.top).1 (k.holds, refl) in
      let in_tree = tree_seen f (part_row number k.part) End (name_list k.top) k.top has entry
      (subst (λ (w : List (Seen EntryName)). In entry w) (sym (seen_top_map f k.top)) (in_map (seen_map f) x.entry (raw_top k.top) x.there)) in
      let in_unit : In entry (seen (partial_unit m number).below) = subst (λ (w : Row). In entry (seen (tree f w End))) (sym rows) in_tree in
      let own : m.stand k.top.number ≡ m.stand t.number =
      ap (λ (w : Option ℕ). unwrap_or w (stand_in rule units k.top.number)) (free_none r fixed files re fx k.top.number two.second)
      ∙ sym (stands_same units rule fair_is t.number k.top.number t there refl same mv) ∙ sym (ap (λ (w : Option ℕ). unwrap_or w (stand_in rule units t.number)) none) in
      let at : entry.at ≡ f d.at = ap f x.at ∙ ap (λ (w : ℕ). Within w x.path) own ∙ ap f (sym x.own) in
      let user = subst (In t.unit) (sym k.users) (used rule.alike units t.number t there self) in
      (entry, entry_seen outs_of (partial_unit m number) entry (local_in number k.part nth k.there t.unit user (file_of_top units t there ∙ of_file)) in_unit, at)

  pub gone_there : (t : Top) → In t (tops_of units) → t.file ≡ file → m.gone t.number ≡ true → (d : Seen EntryName) → In d (raw_top t) → Stands (f d.at)
  gone_there t there of_file gone d is = go (image_at fixed t.number) refl gone where
    go : (o : Option ℕ) → image_at fixed t.number ≡ o → (is_some (image_at fixed t.number) || moves (free_rule r fixed) units t.number) ≡ true → Stands (f d.at)
    go (Some c) q h = taken_there t there c q d is
    go None q h = moved_there t there of_file q (subst (λ (o : Option ℕ). (is_some o || moves (free_rule r fixed) units t.number) ≡ true) q h) d is
