-- The partial units of files over a finished common file: they hold free tops, each of the file, and all of one unit.
use Rattle.std.proofs.Common.{◌≡◌, ℕ, ◌+◌, ◌≤◌, List, ◌++◌, length, map, Option, true, refl, sym, ap, subst, ◌∙◌, inl, inr, arith}
use Rattle.std.specs.Prelude.{unwrap_or}
use Rattle.std.specs.Option.{option_map}
use Rattle.std.proofs.lemmas.Option.{slice_get_past}
use Rattle.dwz_def_reading.specs.Documents.{Doc, Node}
use Rattle.dwz_def_reading.specs.Lists.{In}
use Rattle.dwz_def_tops.specs.Lists.{Nth}
use Rattle.dwz_def_tops.proofs.Members.{each_in, nth_in, nth_from}
use Rattle.dwz_def_tops.proofs.TopOrder.{units_rise}
use Rattle.dwz_def_tops.proofs.Tops.{tops_rise}
use Rattle.dwz_def_tops.specs.Alike.{Apart, Movable}
use Rattle.dwz_def_tops.proofs.AlikeLaws.{alike_decides}
use Rattle.dwz_def_tops.specs.Seen.{named_value}
use Rattle.dwz_def_tops.specs.Spots.{EntryName, FileUnit, PartialOf, Top, file_numbers, tops_of}
use Rattle.dwz_def_images.specs.Homes.{Common, Local, Rule, home, is_home, moves, rep, users}
use Rattle.dwz_def_images.specs.IsPlan.{Has, IsHome, IsPart, OfSpace, OfTop}
use Rattle.dwz_def_images.specs.Moves.{Move, first_unit, line_attrs, part_at, root_in_part}
use Rattle.dwz_def_images.specs.Plan.{PartialUnit, part_row, partials}
use Rattle.dwz_def_images.proofs.HomeLemmas.{file_of_top, home_is}
use Rattle.dwz_def_images.proofs.PartRows.{part_is as part_row_is}
use Rattle.dwz_def_images.proofs.PlanLemmas.{are_parts}
use Rattle.dwz_def_images.proofs.UserLemmas.{Fair, moves_other, moves_self, moving, rep_is, used, used_by}
use Rattle.dwz_def_images.specs.Held.{Kinded, NameNone}
use Rattle.dwz_def_images.proofs.HeldLemmas.{part_found}
use Rattle.dwz_def_images.proofs.KindLemmas.{part_row_kinded, top_plain}
use Rattle.dwz_def_tops.proofs.FiledTops.{nth_cases}
use Rattle.dwz_def_readback.specs.Files.{bases_at, origin_in, unit_in_part}
use Rattle.dwz_def_readback.proofs.OriginLemmas.{first_there, ordered}
use Rattle.dwz_def_taken.specs.declared.fixed.Fixed.{Fixed}
use Rattle.dwz_def_taken.specs.Beside.{Reused, reused_of}
use Rattle.dwz_def_taken.specs.Laws.{ArePlacedOver, IsReused}
use Rattle.dwz_def_taken.specs.Over.{common_parts, common_root, move_over}
use Rattle.dwz_def_taken.specs.Takes.{IsFixed, free_rule}
use Rattle.dwz_def_taken.proofs.ClosedOver.{local_rows}
use Rattle.dwz_def_taken.proofs.CommonParts.{common_nth, length-common}
use Rattle.dwz_def_taken.proofs.NamesOver.{named_over}
use Rattle.dwz_def_taken.proofs.OverLemmas.{fair, free_two}

module _ (docs : List (Doc ℕ)) (common : Doc ℕ) (fixed : Fixed) (p : ArePlacedOver docs common) (fx : IsFixed (reused_of docs common) fixed) where
  abbrev r : Reused
  r = reused_of docs common

  abbrev files : List ℕ
  files = file_numbers 0 docs

  abbrev m : Move
  m = move_over (reused_of docs common) fixed (file_numbers 0 docs)

  abbrev rule : Rule
  rule = free_rule (reused_of docs common) fixed

  abbrev firsts : List PartialUnit
  firsts = common_parts (reused_of docs common) fixed 0 (reused_of docs common).commons

  abbrev locals : List PartialUnit
  locals = partials (free_rule (reused_of docs common) fixed) (reused_of docs common).units (file_numbers 0 docs)

  re : IsReused r
  re = named_over docs common p

  fair_is : Fair r.units rule
  fair_is = fair r fixed files re fx

  pub record IsLocal (n : ℕ) (part : PartialUnit) : Type 0 where
    pub low : length r.commons ≤ n
    pub is : IsPart rule r.units part
    pub rows : m.rows n ≡ part_row n part
    pub roots : m.roots n ≡ line_attrs r.units part

  not_local : (file : ℕ) → Common ≡ Local file → ⊥
  not_local file e = cc

  pub local_part : (file n : ℕ) (part : PartialUnit) → Nth 0 m.parts n part → part.home ≡ Local file → IsLocal n part
  local_part file n part nth at = elim (nth_cases 0 firsts locals n part nth) [
    | inl a ↦ absurd (not_local file (sym (ap (λ (w : PartialUnit). w.home) (common_nth r fixed 0 r.commons n part a).2) ∙ at))
    | inr b ↦
        let from = nth_from (0 + length firsts) locals n part b in
        let low : length r.commons ≤ n = omega (arith, from, length-common r fixed 0 r.commons) in
        record {
          low = low;
          is = each_in (IsPart rule r.units) part locals (are_parts rule r.units files) (nth_in (0 + length firsts) locals n part b);
          rows = local_rows docs common fixed p fx n part nth low;
          roots = ap (λ (o : Option (FileUnit EntryName)). unwrap_or (option_map (common_root r) o) (root_in_part r.units (part_at n (firsts ++ locals)))) (slice_get_past r.commons n low)
              ∙ ap (root_in_part r.units) (part_found 0 (firsts ++ locals) n n part nth (omega arith));
        }
  ]

  -- what moves is movable
  pub free_moves : (t : Top) → moves rule r.units t.number ≡ true → Movable r.units t.number
  free_moves t e =
      let o = moves_other r.units rule t.number 0 e in
      let two = free_two r fixed files re fx t.number o.used_by.top.number o.used_by.alike_is in
      ((alike_decides Apart r.units).decides t.number o.used_by.top.number two.alike_two).first

  -- a top that stands for those alike to it is of the first unit that has one
  first_user : (t : Top) → In t (tops_of r.units) → moves rule r.units t.number ≡ true → rep rule.alike r.units t.number ≡ t.number → (u : ℕ) → In u (users rule.alike r.units t.number) → t.unit ≤ u
  first_user t there moved own u user =
      let o = used_by rule.alike r.units t.number u user in
      let first = rep_is rule.alike r.units t.number t there (moves_self r.units rule fair_is t.number moved) in
      let least = first.least (tops_rise r.units) o.top o.there o.alike_is in
      let le = ordered (tops_of r.units) t o.top (units_rise 0 0 r.units) (tops_rise r.units) there o.there (omega (arith, least, own)) in
      omega (arith, le, o.unit_is)

  module _ (n : ℕ) (part : PartialUnit) (l : IsLocal n part) where
    pub tops_there : (t : Top) → In t part.tops → In t (tops_of r.units)
    tops_there t there = ((l.is.tops t).0 there).there

    pub top_moves : (t : Top) → In t part.tops → moves rule r.units t.number ≡ true
    top_moves t there = ap is_home ((l.is.tops t).0 there).home ∙ l.is.moves

    not_before : (a b : Top) → In a part.tops → In b part.tops → a.unit ≤ b.unit
    not_before a b x y =
        let ha = (l.is.tops a).0 x in
        let hb = (l.is.tops b).0 y in
        let user = used rule.alike r.units b.number b hb.there (moves_self r.units rule fair_is b.number (top_moves b y)) in
        first_user a ha.there (top_moves a x) ha.rep b.unit (subst (In b.unit) (hb.users ∙ sym ha.users) user)

    -- it is of the unit that the first of them is of
    pub first_is : (t : Top) → In t part.tops → t.unit ≡ first_unit part.tops
    first_is t there =
        let o = first_there part.tops t there in
        let a = not_before t o.0 there o.1 in
        let b = not_before o.0 t o.1 there in
        omega (arith, a, b, o.2)

    -- what is known of the unit of such a top
    pub local_origin : Nth 0 m.parts n part → (t : Top) → In t part.tops → bases_at r.units t.unit ≡ origin_in m r.units (PartialOf n)
    local_origin nth t there = ap (bases_at r.units) (first_is t there ∙ ap unit_in_part (sym (part_found 0 m.parts n n part nth (omega arith))))

    -- a top in a partial unit of a file is of that file
    pub local_file : (file : ℕ) → part.home ≡ Local file → (t : Top) → In t part.tops → t.file ≡ file
    local_file file at t there =
        let b = (l.is.tops t).0 there in
        let at_home : home rule r.units t.number ≡ Local file = b.home ∙ at in
        let moved = top_moves t there in
        let found : IsHome r.units (users rule.alike r.units t.number) (Local file) = subst (IsHome r.units (users rule.alike r.units t.number)) (sym (moving r.units rule t.number moved).at_home ∙ at_home)
        (home_is rule.alike r.units t.number) in
        let user = used rule.alike r.units t.number t b.there (moves_self r.units rule fair_is t.number moved) in
        sym (file_of_top r.units t b.there) ∙ found.5 t.unit user

    -- what it holds
    pub in_part : (names : List (List ℕ)) (t : Top) → Has names (OfTop t) (m.rows n) → In t part.tops
    in_part names t has = (((part_row_is n part).tops_are names t).0 (subst (Has names (OfTop t)) l.rows has)).0

    pub local_kinds : Kinded (m.rows n)
    local_kinds = subst Kinded (sym l.rows) (part_row_kinded n part (λ t in_tops. top_plain r.units t (tops_there t in_tops)))

    pub space_plain : (names : List (List ℕ)) (d : Node EntryName) → Has names (OfSpace d) (m.rows n) → NameNone (map named_value d.attrs)
    space_plain names d has =
        let o = (part_row_is n part).spaces_are names d (subst (Has names (OfSpace d)) l.rows has) in
        subst (λ (w : Node EntryName). NameNone (map named_value w.attrs)) (sym o.is) (refl, tt)
