-- A rule that finds tops alike exactly where they are is fair.
use Rattle.dwz_def_tops.specs.Spots.{EntryName, FileUnit}
use Rattle.dwz_def_tops.proofs.AlikePer.{alike_per}
use Rattle.dwz_def_plan.specs.Homes.{Rule}
use Rattle.dwz_def_plan.proofs.UserLemmas.{Fair as IsFair}
use Rattle.dwz_def_plan.specs.Fair.{Fair, FairLaw}
use Rattle.std.proofs.Common.{List}

pub is_fair : (units : List (FileUnit EntryName)) (rule : Rule) → Fair units rule → IsFair units rule
is_fair units rule fair = record { per = record { turns = fair.turns; joins = fair.joins }; choice = fair.choice }

pub fair_by : FairLaw
fair_by scope units rule is choice =
    let per = alike_per scope units rule.alike is in
    record { turns = per.turns; joins = per.joins; choice = choice }
