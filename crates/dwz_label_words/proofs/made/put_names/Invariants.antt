use Rattle.std.proofs.Common.{◌≡◌, ◌++◌, drop}
use Rattle.dwz_label_words.specs.Shapes.{pair_names}
use Rattle.dwz_label_words.proofs.made.put_names.Given as goal

abbrev pub invariant-loop-pair : goal.invariant-loop-pair
invariant-loop-pair l = l.out.items ++ pair_names (drop l.pair-index l.pairs) ≡ l.fn.out.items ++ pair_names l.pairs
