-- The tops of a partial unit stand for those alike to them, so each is of the first unit that uses them.
use Rattle.std.proofs.Common.{◌≡◌, ℕ, ◌≤◌, true, List, sym, ap, subst, ◌∙◌, arith}
use Rattle.dwz_def_reading.specs.Lists.{In}
use Rattle.dwz_def_tops.specs.Lists.{Nth}
use Rattle.dwz_def_tops.proofs.Members.{each_in, nth_in}
use Rattle.dwz_def_tops.specs.Spots.{EntryName, FileUnit, Top, tops_of}
use Rattle.dwz_def_tops.proofs.Tops.{tops_rise, unit_of}
use Rattle.dwz_def_tops.proofs.TopOrder.{units_rise}
use Rattle.dwz_def_images.specs.Homes.{Rule, is_home, moves, rep, users}
use Rattle.dwz_def_images.specs.IsPlan.{IsPart}
use Rattle.dwz_def_images.specs.Moves.{first_unit, plan}
use Rattle.dwz_def_images.specs.Plan.{PartialUnit, partials}
use Rattle.dwz_def_images.proofs.PlanLemmas.{are_parts}
use Rattle.dwz_def_images.proofs.UserLemmas.{Fair as IsFair, move_stand, moves_self, rep_is, used, used_by}
use Rattle.dwz_def_readback.proofs.OriginLemmas.{first_there, ordered}
use Rattle.dwz_def_images.specs.Fair.{Fair}
use Rattle.dwz_law_layout.specs.Moving.{MovesFrom}
use Rattle.dwz_law_layout.specs.New.{TopUnitLaw}
use Rattle.dwz_def_images.proofs.FairLemmas.{is_fair}

-- ---- the tops of a partial unit

pub part_is : (units : List (FileUnit EntryName)) (rule : Rule) (files : List ℕ) (n : ℕ) (part : PartialUnit) → Nth 0 (partials rule units files) n part → IsPart rule units part
part_is units rule files n part nth = each_in (IsPart rule units) part (partials rule units files) (are_parts rule units files) (nth_in 0 (partials rule units files) n part nth)

module _ (units : List (FileUnit EntryName)) (rule : Rule) (is : Fair units rule) (files : List ℕ) where
  fair : IsFair units rule
  fair = is_fair units rule is

  -- a top that stands for those alike to it is of the first unit that has one
  first_user : (t : Top) → In t (tops_of units) → moves rule units t.number ≡ true → rep rule.alike units t.number ≡ t.number → (u : ℕ) → In u (users rule.alike units t.number) → t.unit ≤ u
  first_user t there moved own u user =
      let o = used_by rule.alike units t.number u user in
      let first = rep_is rule.alike units t.number t there (moves_self units rule fair t.number moved) in
      let least = first.least (tops_rise units) o.top o.there o.alike_is in
      let le = ordered (tops_of units) t o.top (units_rise 0 0 units) (tops_rise units) there o.there (omega (arith, least, own)) in
      omega (arith, le, o.unit_is)

  not_before : (part : PartialUnit) → IsPart rule units part → (a b : Top) → In a part.tops → In b part.tops → a.unit ≤ b.unit
  not_before part p a b x y =
      let ha = (p.tops a).0 x in
      let hb = (p.tops b).0 y in
      let moves_b : moves rule units b.number ≡ true = ap is_home hb.home ∙ p.moves in
      let user = used rule.alike units b.number b hb.there (moves_self units rule fair b.number moves_b) in
      first_user a ha.there (ap is_home ha.home ∙ p.moves) ha.rep b.unit (subst (In b.unit) (hb.users ∙ sym ha.users) user)

  pub part_tops : (n : ℕ) (part : PartialUnit) → Nth 0 (partials rule units files) n part → (t : Top) → In t part.tops → MovesFrom (plan rule units files) units (first_unit part.tops) t
  part_tops n part nth t there =
      let p = part_is units rule files n part nth in
      let own = (p.tops t).0 there in
      let moved : moves rule units t.number ≡ true = ap is_home own.home ∙ p.moves in
      let o = first_there part.tops t there in
      let a = not_before part p t o.0 there o.1 in
      let b = not_before part p o.0 t o.1 there in
      record { there = own.there; moves = moved; stands = move_stand units rule t.number moved ∙ own.rep; unit = omega (arith, a, b, o.2) }

  pub first_uses : (n : ℕ) (part : PartialUnit) → Nth 0 (partials rule units files) n part → In (first_unit part.tops) part.users
  first_uses n part nth =
      let p = part_is units rule files n part nth in
      let t = p.some.0 in
      let own = (p.tops t).0 p.some.1 in
      let moved : moves rule units t.number ≡ true = ap is_home own.home ∙ p.moves in
      let user = used rule.alike units t.number t own.there (moves_self units rule fair t.number moved) in
      subst (λ (k : ℕ). In k part.users) (part_tops n part nth t p.some.1).unit (subst (In t.unit) own.users user)

pub of_unit : TopUnitLaw
of_unit units t there = (let o = unit_of units t there in record { unit = o.unit; nth = o.nth; file = o.file_is })
