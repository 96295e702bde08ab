use Rattle.dwz_def_check.proofs.Sorted.{same_one, sorted_one}
use Rattle.dwz_def_check.proofs.laws.sorted_laws.Goals as goal

pub returns : goal.returns
returns g c before never then xs ys h j = (sorted_one before never then xs ys h j, same_one xs ys)
