-- Inner: rules that say the same of alike tops.
use Rattle.std.specs.Prelude.{◌≡◌, ℕ, true, List}
use Rattle.dwz_def_tops.specs.Alike.{IsAlike, TopScope}
use Rattle.dwz_def_tops.specs.Spots.{EntryName, FileUnit}
use Rattle.dwz_def_plan.specs.Homes.{IsChoice, Rule}

-- to be alike is symmetric and transitive, and the choice is as it is asked for
pub record Fair (units : List (FileUnit EntryName)) (rule : Rule) : Type 0 where
  pub turns : (m n : ℕ) → rule.alike m n ≡ true → rule.alike n m ≡ true
  pub joins : (l m n : ℕ) → rule.alike l m ≡ true → rule.alike m n ≡ true → rule.alike l n ≡ true
  pub choice : IsChoice units rule

-- so is a rule that finds tops alike exactly where they are
abbrev pub FairLaw : Type 0
FairLaw = (scope : TopScope) (units : List (FileUnit EntryName)) (rule : Rule) → IsAlike scope units rule.alike → IsChoice units rule
    → Fair units rule
