-- Over a finished common file tops move as is asked: what is taken stands there, and of what is left tops move by a fair rule.
use Rattle.std.proofs.Common.{◌≡◌, ◌⊎◌, ℕ, ◌+◌, ◌||◌, ◌≤◌, true, false, List, length, Option, Some, None, refl, sym, ap, subst, ◌∙◌, inl, inr, arith}
use Rattle.std.specs.Prelude.{unwrap_or}
use Rattle.std.specs.Option.{is_some}
use Rattle.dwz_def_reading.specs.Documents.{Doc}
use Rattle.dwz_def_reading.specs.Lists.{In}
use Rattle.dwz_def_tops.specs.Lists.{Nth}
use Rattle.dwz_def_tops.proofs.Members.{each_in, in_map_from, in_nth, nth_in, nth_of}
use Rattle.dwz_def_tops.specs.Spots.{EntryName, FileUnit, Top, file_numbers, tops_of}
use Rattle.dwz_def_images.specs.Homes.{Common, Home, Local, Rule, home, is_home, moves, rep, users}
use Rattle.dwz_def_images.specs.IsPlan.{IsHome, IsPart}
use Rattle.dwz_def_images.specs.Moves.{Move, first_unit}
use Rattle.dwz_def_images.specs.Plan.{PartialUnit, partials, stand_in}
use Rattle.dwz_def_images.proofs.HomeLemmas.{file_of_top, home_is}
use Rattle.dwz_def_images.proofs.PlanLemmas.{are_parts}
use Rattle.dwz_def_images.proofs.UserLemmas.{Fair, home_same, move_stand, moves_other, moves_same, moves_self, moving, rep_is, stands_same, stay_fixed, used}
use Rattle.dwz_plan.specs.ShowsMove.{HoldsAt}
use Rattle.dwz_def_tops.proofs.FiledTops.{nth_cases}
use Rattle.dwz_def_taken.specs.declared.fixed.Fixed.{Fixed}
use Rattle.dwz_def_taken.specs.Beside.{Reused, own_tops, reused_of}
use Rattle.dwz_def_taken.specs.Laws.{ArePlacedOver, IsReused}
use Rattle.dwz_def_taken.specs.Over.{common_parts, move_over}
use Rattle.dwz_def_taken.specs.Takes.{IsFixed, free_rule, image_at}
use Rattle.dwz_def_taken.proofs.CommonParts.{common_nth}
use Rattle.dwz_def_taken.proofs.CommonUnits.{stands}
use Rattle.dwz_def_taken.proofs.LookTops.{own_number}
use Rattle.dwz_def_taken.proofs.NamesOver.{named_over}
use Rattle.dwz_def_taken.proofs.OverLemmas.{fair, free_none, free_two, image_is}
use Rattle.dwz_def_taken.proofs.PlaceLemmas.{whole}
use Rattle.dwz_def_over.proofs.LocalParts.{IsLocal, first_is, local_part, top_moves, tops_there}
use Rattle.dwz_law_layout.specs.Moving.{IsMadePart, MovesFrom, MovesSo}
use Rattle.dwz_law_layout.proofs.Places.{used_homes}

module _ (docs : List (Doc ℕ)) (common : Doc ℕ) (fixed : Fixed) (p : ArePlacedOver docs common) (fx : IsFixed (reused_of docs common) fixed) where
  abbrev r : Reused
  r = reused_of docs common

  abbrev files : List ℕ
  files = file_numbers 0 docs

  abbrev m : Move
  m = move_over (reused_of docs common) fixed (file_numbers 0 docs)

  abbrev rule : Rule
  rule = free_rule (reused_of docs common) fixed

  abbrev us : List (FileUnit EntryName)
  us = (reused_of docs common).units

  abbrev firsts : List PartialUnit
  firsts = common_parts (reused_of docs common) fixed 0 (reused_of docs common).commons

  abbrev locals : List PartialUnit
  locals = partials (free_rule (reused_of docs common) fixed) (reused_of docs common).units (file_numbers 0 docs)

  re : IsReused r
  re = named_over docs common p

  fair_is : Fair us rule
  fair_is = fair r fixed files re fx

  -- ---- what is taken, and what moves

  -- what moves isn't taken
  none_taken : (n : ℕ) → moves rule us n ≡ true → image_at fixed n ≡ None
  none_taken n e =
      let o = moves_other us rule n 0 e in
      free_none r fixed files re fx n (free_two r fixed files re fx n o.used_by.top.number o.used_by.alike_is).first

  goes : (n : ℕ) → moves rule us n ≡ true → m.gone n ≡ true
  goes n e = by (image_at fixed n) where
    by : (o : Option ℕ) → (is_some o || moves rule us n) ≡ true
    by None = e
    by (Some c) = refl

  stand_is : (n : ℕ) → moves rule us n ≡ true → m.stand n ≡ stand_in rule us n
  stand_is n e = ap (λ (o : Option ℕ). unwrap_or o (stand_in rule us n)) (none_taken n e)

  -- the image of a top that leaves its unit is one of the common file, or of one that moves
  data Leaves (t : Top) : Type 0 where
    IsTaken : own_tops r ≤ m.stand t.number → Leaves t
    IsMoved : moves rule us t.number ≡ true → Leaves t

  leaves_as : (t : Top) → In t (tops_of us) → m.gone t.number ≡ true → Leaves t
  leaves_as t there gone = by (image_at fixed t.number) refl gone where
    by : (o : Option ℕ) → image_at fixed t.number ≡ o → (is_some o || moves rule us t.number) ≡ true → Leaves t
    by None q h = IsMoved h
    by (Some c) q h =
        let im = image_is r fixed files re fx t there c q in
        let low = im.taken.alike.common in
        let at = im.number in
        let to : m.stand t.number ≡ c = ap (λ (o : Option ℕ). unwrap_or o (stand_in rule us t.number)) q in
        IsTaken (omega (arith, low, at, to))

  -- what stands for one that moves
  record Moved (t : Top) : Type 0 where
    to : m.stand t.number ≡ rep rule.alike us t.number
    moves_too : moves rule us (rep rule.alike us t.number) ≡ true
    same : stand_in rule us (rep rule.alike us t.number) ≡ rep rule.alike us t.number
    home_is_same : home rule us t.number ≡ home rule us (rep rule.alike us t.number)

  moved : (t : Top) → In t (tops_of us) → moves rule us t.number ≡ true → Moved t
  moved t there e =
      let rt = rep rule.alike us t.number in
      let first = rep_is rule.alike us t.number t there (moves_self us rule fair_is t.number e) in
      let to : stand_in rule us t.number ≡ rt = move_stand us rule t.number e in
      record {
        to = stand_is t.number e ∙ to;
        moves_too = sym (moves_same us rule fair_is t.number rt first.alike_is) ∙ e;
        same = sym (stands_same us rule fair_is t.number rt t there refl first.alike_is e) ∙ to;
        home_is_same = home_same us rule fair_is t.number rt first.alike_is;
      }

  -- ---- the move

  stays : (n : ℕ) → m.gone n ≡ false → m.stand n ≡ n
  stays n h = by (image_at fixed n) h where
    by : (o : Option ℕ) → (is_some o || moves rule us n) ≡ false → unwrap_or o (stand_in rule us n) ≡ n
    by None h = stay_fixed us rule n h
    by (Some c) h = absurd cc

  twice : (t : Top) → In t (tops_of us) → m.gone t.number ≡ true → m.stand (m.stand t.number) ≡ m.stand t.number
  twice t there gone = by (leaves_as t there gone) where
    by : Leaves t → m.stand (m.stand t.number) ≡ m.stand t.number
    by (IsTaken low) = stands docs common fixed p fx (m.stand t.number) low
    by (IsMoved e) =
        let q = moved t there e in
        ap m.stand q.to ∙ stand_is (rep rule.alike us t.number) q.moves_too ∙ q.same ∙ sym q.to

  leaves : (t s : Top) → In t (tops_of us) → In s (tops_of us) → s.number ≡ m.stand t.number → m.gone t.number ≡ true → m.gone s.number ≡ true
  leaves t s there s_there number gone = by (leaves_as t there gone) where
    by : Leaves t → m.gone s.number ≡ true
    by (IsTaken low) = (let lt = own_number r (whole r re) s s_there in absurd (omega (arith, low, lt, number)))
    by (IsMoved e) = (let q = moved t there e in goes s.number (ap (moves rule us) (number ∙ q.to) ∙ q.moves_too))

  -- a home among the units of a file is of the file of its users
  home_file : (t : Top) → In t (tops_of us) → moves rule us t.number ≡ true → (file : ℕ) → home rule us t.number ≡ Local file → file ≡ t.file
  home_file t there e file at =
      let found : IsHome us (users rule.alike us t.number) (Local file) = subst (IsHome us (users rule.alike us t.number)) (sym (moving us rule t.number e).at_home ∙ at) (home_is rule.alike us t.number) in
      let user = used rule.alike us t.number t there (moves_self us rule fair_is t.number e) in
      sym (found.5 t.unit user) ∙ file_of_top us t there

  near : (t : Top) → In t (tops_of us) → m.gone t.number ≡ true → (n file : ℕ) → HoldsAt m.parts n (Local file) (m.stand t.number) → file ≡ t.file
  near t there gone n file at =
      let o = in_map_from (λ (x : Top). x.number) (m.stand t.number) at.part.tops at.holds in
      let none : 0 + n ≡ n = omega arith in
      let nth : Nth 0 m.parts n at.part = subst (λ (k : ℕ). Nth 0 m.parts k at.part) none (nth_of 0 m.parts n at.part at.there) in
      let l = local_part docs common fixed p fx file n at.part nth at.home in
      by o.source (tops_there docs common fixed p fx n at.part l o.source o.there) o.is ((l.is.tops o.source).0 o.there).home at.home (leaves_as t there gone)
    where
      by : (s : Top) → In s (tops_of us) → s.number ≡ m.stand t.number → {h : Home} → home rule us s.number ≡ h → h ≡ Local file → Leaves t → file ≡ t.file
      by s s_there number at_home local (IsTaken low) = (let lt = own_number r (whole r re) s s_there in absurd (omega (arith, low, lt, number)))
      by s s_there number at_home local (IsMoved e) =
          (let q = moved t there e in home_file t there e file (q.home_is_same ∙ ap (home rule us) (sym (number ∙ q.to)) ∙ at_home ∙ local))

  homes : (n : ℕ) (part : PartialUnit) → Nth 0 m.parts n part → is_home part.home ≡ true
  homes n part nth = elim (nth_cases 0 firsts locals n part nth) [
    | inl a ↦ ap (λ (w : PartialUnit). is_home w.home) (common_nth r fixed 0 r.commons n part a).2
    | inr b ↦ (each_in (IsPart rule us) part locals (are_parts rule us files) (nth_in (0 + length firsts) locals n part b)).moves
  ]

  uses : (n : ℕ) (part : PartialUnit) → Nth 0 m.parts n part → (i : ℕ) (u : FileUnit EntryName) → Nth 0 us i u → In i part.users → (part.home ≡ Common) ⊎ (part.home ≡ Local u.file)
  uses n part nth i u at user = elim (nth_cases 0 firsts locals n part nth) [
    | inl a ↦ inl (ap (λ (w : PartialUnit). w.home) (common_nth r fixed 0 r.commons n part a).2)
    | inr b ↦ (let k = in_nth 0 locals part (nth_in (0 + length firsts) locals n part b) in used_homes rule us files k.number part k.nth i u at user)
  ]

  module _ (n : ℕ) (part : PartialUnit) (l : IsLocal docs common fixed p fx n part) where
    made_top : (t : Top) → In t part.tops → MovesFrom m us (first_unit part.tops) t
    made_top t there =
        let e = top_moves docs common fixed p fx n part l t there in
        let own = (l.is.tops t).0 there in
        record {
          there = own.there;
          moves = goes t.number e;
          stands = stand_is t.number e ∙ move_stand us rule t.number e ∙ own.rep;
          unit = first_is docs common fixed p fx n part l t there;
        }

    made_part : IsMadePart m us n part
    made_part =
        let t = l.is.some.0 in
        let there = l.is.some.1 in
        let own = (l.is.tops t).0 there in
        let e = top_moves docs common fixed p fx n part l t there in
        let user = used rule.alike us t.number t own.there (moves_self us rule fair_is t.number e) in
        record {
          some = l.is.some;
          tops = made_top;
          user = subst (λ (k : ℕ). In k part.users) (first_is docs common fixed p fx n part l t there) (subst (In t.unit) own.users user);
          row = l.rows;
          root = l.roots;
        }

  pub over_moves : MovesSo (λ home. (file : ℕ) × (home ≡ Local file)) m us
  over_moves = record {
    stays = stays;
    twice = twice;
    leaves = leaves;
    near = near;
    homes = homes;
    used = uses;
    made = λ n part nth is. made_part n part (local_part docs common fixed p fx is.0 n part nth is.1);
  }
