-- By a fair rule tops move as is asked: what stands for those alike to it moves too, to the same home, and stands for itself.
use Rattle.std.proofs.Common.{◌≡◌, ℕ, ◌+◌, true, List, refl, sym, ap, subst, ◌∙◌, arith}
use Rattle.dwz_def_reading.specs.Lists.{In}
use Rattle.dwz_def_tops.specs.Lists.{Nth}
use Rattle.dwz_def_tops.proofs.Members.{in_map_from, nth_of}
use Rattle.dwz_def_tops.specs.Spots.{EntryName, FileUnit, Top, tops_of}
use Rattle.dwz_def_images.specs.Homes.{Local, Rule, home, moves, rep, users}
use Rattle.dwz_def_images.specs.IsPlan.{IsHome}
use Rattle.dwz_def_images.specs.Moves.{root_in_part}
use Rattle.dwz_def_images.specs.Plan.{partials, stand_in}
use Rattle.dwz_def_images.proofs.HomeLemmas.{file_of_top, home_is}
use Rattle.dwz_def_images.proofs.UserLemmas.{Fair as IsFair, home_same, move_stand, moves_same, moves_self, moving, rep_is, stands_same, stay_fixed, used}
use Rattle.dwz_plan.specs.ShowsMove.{HoldsAt}
use Rattle.dwz_def_images.proofs.HeldLemmas.{part_found, row_found}
use Rattle.dwz_def_images.specs.Fair.{Fair}
use Rattle.dwz_law_layout.specs.Moving.{MovesSoLaw}
use Rattle.dwz_def_images.proofs.FairLemmas.{is_fair}
use Rattle.dwz_law_layout.proofs.PartUnits.{first_uses, part_is, part_tops}
use Rattle.dwz_law_layout.proofs.Places.{used_homes}

module _ (units : List (FileUnit EntryName)) (rule : Rule) (is : Fair units rule) (files : List ℕ) where
  fair : IsFair units rule
  fair = is_fair units rule is

  abbrev stand : ℕ → ℕ
  stand = stand_in rule units

  -- what stands for a top that moves
  record StandsFor (t : Top) : Type 0 where
    twice : stand (stand t.number) ≡ stand t.number
    gone : moves rule units (stand t.number) ≡ true
    same : home rule units t.number ≡ home rule units (stand t.number)

  stands_for : (t : Top) → In t (tops_of units) → moves rule units t.number ≡ true → StandsFor t
  stands_for t there gone =
      let r = rep rule.alike units t.number in
      let first = rep_is rule.alike units t.number t there (moves_self units rule fair t.number gone) in
      let to : stand t.number ≡ r = move_stand units rule t.number gone in
      record {
        twice = ap stand to ∙ sym (stands_same units rule fair t.number r t there refl first.alike_is gone);
        gone = ap (moves rule units) to ∙ sym (moves_same units rule fair t.number r first.alike_is) ∙ gone;
        same = home_same units rule fair t.number r first.alike_is ∙ ap (home rule units) (sym to);
      }

  -- a home among the units of a file is of the file of its users
  home_file : (t : Top) → In t (tops_of units) → moves rule units t.number ≡ true → (file : ℕ) → home rule units t.number ≡ Local file → file ≡ t.file
  home_file t there gone file at =
      let us = users rule.alike units t.number in
      let found : IsHome units us (Local file) = subst (IsHome units us) (sym (moving units rule t.number gone).at_home ∙ at) (home_is rule.alike units t.number) in
      let user = used rule.alike units t.number t there (moves_self units rule fair t.number gone) in
      sym (found.5 t.unit user) ∙ file_of_top units t there

  near : (t : Top) → In t (tops_of units) → moves rule units t.number ≡ true → (n file : ℕ) → HoldsAt (partials rule units files) n (Local file) (stand t.number) → file ≡ t.file
  near t there gone n file at =
      let o = in_map_from (λ (x : Top). x.number) (stand t.number) at.part.tops at.holds in
      let none : 0 + n ≡ n = omega arith in
      let nth : Nth 0 (partials rule units files) n at.part = subst (λ (k : ℕ). Nth 0 (partials rule units files) k at.part) none (nth_of 0 (partials rule units files) n at.part at.there) in
      let own = ((part_is units rule files n at.part nth).tops o.source).0 o.there in
      home_file t there gone file ((stands_for t there gone).same ∙ ap (home rule units) (sym o.is) ∙ own.home ∙ at.home)

pub moves_so : MovesSoLaw
moves_so units rule fair files = record {
  stays = stay_fixed units rule;
  twice = λ t there gone. (stands_for units rule fair files t there gone).twice;
  leaves = λ t s there s_there number gone. ap (moves rule units) number ∙ (stands_for units rule fair files t there gone).gone;
  near = near units rule fair files;
  homes = λ n part nth. (part_is units rule files n part nth).moves;
  used = λ n part nth i u at user. used_homes rule units files n part nth i u at user;
  made = λ n part nth is. record {
    some = (part_is units rule files n part nth).some;
    tops = part_tops units rule fair files n part nth;
    user = first_uses units rule fair files n part nth;
    row = row_found rule units files n part nth;
    root = ap (root_in_part units) (part_found 0 (partials rule units files) n n part nth (omega arith));
  };
}
