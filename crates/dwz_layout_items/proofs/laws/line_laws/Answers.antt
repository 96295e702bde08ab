use Rattle.dwz_layout_items.proofs.LineLemmas.{tree_lines, unit_steps_are}
use Rattle.dwz_layout_items.proofs.laws.line_laws.Goals as goal

pub returns-clause-steps : goal.returns-clause-steps
returns-clause-steps c = unit_steps_are

pub returns-clause-tree : goal.returns-clause-tree
returns-clause-tree c = tree_lines
