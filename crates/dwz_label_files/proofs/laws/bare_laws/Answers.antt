use Rattle.dwz_label_files.proofs.BareLemmas.{bare_tree, tree_bare}
use Rattle.dwz_label_files.proofs.laws.bare_laws.Goals as goal

pub returns : goal.returns
returns c a b = (bare_tree a b, tree_bare a b)
