-- Over a finished common file just those files import from it of which a unit takes something of it.
use Rattle.std.proofs.Common.{◌≡◌, ◌&&◌, ◌||◌, ◌==◌, ℕ, ◌+◌, true, false, Bool, List, length, Option, Some, None, refl, sym, ap, subst, ◌∙◌, inl, inr, eqb-true}
use Rattle.std.specs.List.{list_any}
use Rattle.std.specs.Option.{is_some}
use Rattle.std.specs.Prelude.{MatchOption}
use Rattle.std.proofs.lemmas.Bool.{and_parts}
use Rattle.dwz_def_reading.specs.Documents.{Doc}
use Rattle.dwz_def_reading.specs.Lists.{In, Nth}
use Rattle.dwz_def_reading.proofs.Members.{any_from, in_nth, nth_in}
use Rattle.dwz_def_tops.specs.Spots.{EntryName, FileUnit, Top, file_numbers, units_of}
use Rattle.dwz_def_tops.proofs.FiledTops.{nth_cases}
use Rattle.dwz_def_images.specs.Homes.{Common, file_of, moves, same_home}
use Rattle.dwz_def_images.specs.Moves.{Move}
use Rattle.dwz_def_images.specs.Plan.{PartialUnit, partials}
use Rattle.dwz_def_images.specs.Units.{changes}
use Rattle.dwz_def_images.proofs.EntryLemmas.{top_changes}
use Rattle.dwz_def_images.proofs.HomeLemmas.{file_of_top}
use Rattle.dwz_def_images.proofs.PlanLemmas.{home_true}
use Rattle.dwz_def_readback.specs.Files.{imports_common}
use Rattle.dwz_def_taken.specs.declared.fixed.Fixed.{Fixed}
use Rattle.dwz_def_taken.specs.Beside.{Reused, reused_of}
use Rattle.dwz_def_taken.specs.Laws.{ArePlacedOver, IsReused}
use Rattle.dwz_def_taken.specs.Over.{common_part, common_parts, move_over}
use Rattle.dwz_def_taken.specs.Takes.{CanTake, CanTakeAlong, IsFixed, IsImage, IsTaken, Takes, free_rule, image_at}
use Rattle.dwz_def_taken.proofs.CommonParts.{common_nth, in_takers, nth_common, taker}
use Rattle.dwz_def_taken.proofs.CommonUnits.{not_shared}
use Rattle.dwz_def_taken.proofs.LookTops.{own_together}
use Rattle.dwz_def_taken.proofs.NamesOver.{named_over}
use Rattle.dwz_def_taken.proofs.PlaceLemmas.{nth_left, part_nth, whole}
use Rattle.dwz_law_cross.proofs.OwnFiles.{no_user}

module _ (docs : List (Doc ℕ)) (common : Doc ℕ) (fixed : Fixed) (p : ArePlacedOver docs common) (fx : IsFixed (reused_of docs common) fixed) (file : ℕ) where
  abbrev r : Reused
  r = reused_of docs common

  abbrev units : List (FileUnit EntryName)
  units = units_of docs

  abbrev m : Move
  m = move_over (reused_of docs common) fixed (file_numbers 0 docs)

  abbrev firsts : List PartialUnit
  firsts = common_parts (reused_of docs common) fixed 0 (reused_of docs common).commons

  abbrev locals : List PartialUnit
  locals = partials (free_rule (reused_of docs common) fixed) (units_of docs) (file_numbers 0 docs)

  re : IsReused r
  re = named_over docs common p

  -- a unit of the file takes a partial unit
  pub record Taker : Type 0 where
    pub unit : ℕ
    pub part : ℕ
    pub takes : Takes r unit part
    pub of_file : file_of units unit ≡ file

  by_itself : (u n : ℕ) → Takes r u n → CanTake r u n
  unfolding CanTakeAlong
  by_itself u n takes = takes.fits 0

  pub taker_of : imports_common m units file ≡ true → Taker
  unfolding imports_common
  taker_of e =
      let o = any_from (λ (q : PartialUnit). same_home q.home Common && list_any (λ j. file_of units j == file) q.users) m.parts e in
      let both = and_parts (same_home o.one.home Common) (list_any (λ j. file_of units j == file) o.one.users) o.passes in
      let u = any_from (λ j. file_of units j == file) o.one.users both.1 in
      let n = in_nth 0 m.parts o.one o.there in
      go o.one n.number n.nth (home_true o.one.home Common both.0) u.one u.there (eqb-true (file_of units u.one) file u.passes)
    where
      go : (part : PartialUnit) (n : ℕ) → Nth 0 m.parts n part → part.home ≡ Common → (u : ℕ) → In u part.users → file_of units u ≡ file → Taker
      go part n nth home u user of_file = elim (nth_cases 0 firsts locals n part nth) [
        | inl a ↦
            let is = (common_nth r fixed 0 r.commons n part a).2 in
            record { unit = u; part = n; takes = taker r fixed fx u n (subst (λ (w : PartialUnit). In u w.users) is user); of_file = of_file }
        | inr b ↦ absurd (not_shared docs common fixed p fx part (nth_in (0 + length firsts) locals n part b) home)
      ]

  pub taker_imports : Taker → imports_common m units file ≡ true
  taker_imports t = by (imports_common m units file) refl where
    by : (b : Bool) → imports_common m units file ≡ b → b ≡ true
    by true e = refl
    by false e =
        let c = (by_itself t.unit t.part t.takes).some in
        let k = part_nth r re t.part c.0 c.1 in
        let nth = nth_left 0 firsts locals t.part (common_part r fixed t.part) (nth_common r fixed 0 r.commons t.part k.0 k.1) in
        absurd (no_user m units file e t.part (common_part r fixed t.part) nth refl t.unit (in_takers r fixed fx t.unit t.part t.takes) t.of_file)

  -- something of such a file is taken
  taken_gone : (t : Top) → IsTaken r t → (o : Option ℕ) → image_at fixed t.number ≡ o → MatchOption o (IsTaken r t → ⊥) (IsImage r t) → m.gone t.number ≡ true
  taken_gone t is None e h = absurd (h is)
  taken_gone t is (Some c) e h = ap (λ (o : Option ℕ). is_some o || moves (free_rule r fixed) units t.number) e

  pub taker_changes : Taker → changes m units file ≡ true
  taker_changes t =
      let can = by_itself t.unit t.part t.takes in
      let c = can.some in
      let like = can.tops c.0 c.1 in
      let top = like.top in
      let taken : IsTaken r top = (
        c.0,
        record { part = t.part; takes = subst (λ (u : ℕ). Takes r u t.part) (sym like.unit_is) t.takes; in_part = c.1; alike = like.alike },
      ) in
      let gone = taken_gone top taken (image_at fixed top.number) refl (fx.images top (own_together r (whole r re) top like.there)) in
      subst (λ (f : ℕ). changes m units f ≡ true) (sym (file_of_top units top like.there) ∙ ap (file_of units) like.unit_is ∙ t.of_file) (top_changes m units top like.there gone)

  -- so a file of which nothing moves, and nothing is taken, imports nothing
  pub still_imports_none : changes m units file ≡ false → imports_common m units file ≡ false
  still_imports_none still = by (imports_common m units file) refl where
    by : (b : Bool) → imports_common m units file ≡ b → b ≡ false
    by false e = refl
    by true e = absurd (let z : true ≡ false = sym (taker_changes (taker_of e)) ∙ still in cc)
