-- What alike tops share, and what the target of a moving one has, as records; and the choice of all tops.
use Rattle.std.proofs.Common.{◌≡◌, ℕ, true, List, refl, ap, ◌∙◌}
use Rattle.dwz_def_reading.specs.Lists.{In}
use Rattle.dwz_def_tops.specs.Alike.{IsAlike, TopScope, refers_to}
use Rattle.dwz_def_tops.specs.Deciding.{Test}
use Rattle.dwz_def_tops.specs.Spots.{EntryName, FileUnit, Top, tops_of}
use Rattle.dwz_def_plan.specs.Homes.{IsChoice, Rule, all_rule, moves}
use Rattle.dwz_def_plan.specs.IsPlan.{MovesAlong, ShareAll}
use Rattle.dwz_def_plan.proofs.StandLemmas.{fair, target_moves}
use Rattle.dwz_def_plan.proofs.UserLemmas.{candidate_same, home_same, rep_same, users_same}

pub share_all : (scope : TopScope) (units : List (FileUnit EntryName)) (rule : Rule) → IsAlike scope units rule.alike → IsChoice units rule → (m n : ℕ) → rule.alike m n ≡ true
    → ShareAll rule units m n
share_all scope units rule is choice m n e =
    let f = fair scope units rule is choice in
    let other = (is.decides m n e).second in
    record {
      users = users_same rule.alike f.per units m n e;
      rep = rep_same rule.alike f.per units m n other.top other.is_top (ap (rule.alike m) other.number ∙ e) e;
      candidate = candidate_same rule.alike f.per units m n e;
      home = home_same units rule f m n e;
    }

pub moves_along : (scope : TopScope) (units : List (FileUnit EntryName)) (rule : Rule) → IsAlike scope units rule.alike → IsChoice units rule → (t : Top) → In t (tops_of units)
    → moves rule units t.number ≡ true → (m : ℕ) → refers_to m t ≡ true → MovesAlong rule units t m
moves_along scope units rule is choice t there mv m refers = let o = target_moves scope units rule is choice t there mv m refers in record { moves = o.0; users = o.1 }

pub all_chosen : (scope : TopScope) (units : List (FileUnit EntryName)) (alike : Test) → IsAlike scope units alike → IsChoice units (all_rule alike)
all_chosen scope units alike is = record { together = λ m n e. refl; targets = λ t there mv m refers. refl }
