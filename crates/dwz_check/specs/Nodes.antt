-- The nodes that are made of labels and targets, one for each.
use Rattle.std.specs.Prelude.{ℕ, Bool, List, length}
use Rattle.dwz_def_check.specs.CrossNodes.{AreAllFree}
use Rattle.dwz_label.specs.Shown.{AreFirstEquals, AreMadeOf}
use Rattle.dwz_nodes.specs.Graph.{Node}

-- each is compared with all, and its label is the number of the first that is equal
pub record AreNodesOf (labels targets : List (List ℕ)) (g : List Node) : Type 0 where
  pub movable : List Bool
  pub firsts : List ℕ
  pub free : AreAllFree (length labels) movable
  pub are_first : AreFirstEquals labels movable firsts
  pub made : AreMadeOf firsts movable targets g
