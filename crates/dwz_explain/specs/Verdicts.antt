-- Inner: what is found of two tops on the way to the verdict on them.
use Rattle.std.specs.Prelude.{◌≡◌, ℕ, ◌<◌, ◌^◌, All, List, length}
use Rattle.dwz_model.specs.Lists.{In}
use Rattle.dwz_def_tops.specs.Alike.{Movable}
use Rattle.dwz_def_tops.specs.Spots.{EntryName, FileUnit, Top, tops_of}
use Rattle.dwz_def_tops.specs.Targets.{targets_of}
use Rattle.dwz_def_explain.specs.Chain.{DifferThemselves}
use Rattle.dwz_def_explain.specs.Explained.{IsExplained}
use Rattle.dwz_def_explain.specs.What.{IsWhat}
use Rattle.dwz_def_explain.specs.declared.verdict.Verdict.{Verdict}
use Rattle.dwz_def_explain.specs.declared.verdict.Verdict.TheVariants.{Differ}
use Rattle.dwz_def_explain.specs.declared.verdict.What.{What}
use Rattle.dwz_label.specs.Labels.{label_of}
use Rattle.dwz_label.specs.Shown.{nth_label}
use Rattle.dwz_label_differences.specs.Told.{IsShort}
use Rattle.dwz_nodes_chains.specs.declared.search.Difference.{Difference}

-- a chain leads from x and y to two tops that differ by themselves; with what differs there it is the verdict
pub record LeadsApart (units : List (FileUnit EntryName)) (x y : Top) (apart : Difference) : Type 0 where
  pub first : Top
  pub second : Top
  pub first_there : In first (tops_of units)
  pub second_there : In second (tops_of units)
  pub first_moves : Movable units first.number
  pub second_moves : Movable units second.number
  pub first_is : first.number ≡ apart.first
  pub second_is : second.number ≡ apart.second
  pub differ : DifferThemselves first second
  pub explained : (what : What) → IsWhat first second what → IsExplained units x y (Differ apart.chain.items what)

-- the chain, and what differs between the two
pub record TellsDifference (c d : Top) (chain : List ℕ) (verdict : Verdict) : Type 0 where
  pub what : What
  pub differs : IsWhat c d what
  pub is : verdict ≡ Differ chain what

-- 32 bits count the references of each top that may move
abbrev pub HaveFewTargets : List (FileUnit EntryName) → Type 0
HaveFewTargets units = (t : Top) → In t (tops_of units) → Movable units t.number → length (targets_of t) < 2 ^ 32

-- the labels at the end are those of two tops that differ by themselves, and 32 bits hold the numbers of the chain
pub record LabelEnds (labels : List (List ℕ)) (apart : Difference) : Type 0 where
  pub first : Top
  pub second : Top
  pub first_label : nth_label labels apart.first ≡ label_of first
  pub second_label : nth_label labels apart.second ≡ label_of second
  pub short : IsShort first
  pub differ : DifferThemselves first second
  pub few : All (λ n. n < 2 ^ 32) apart.chain.items
