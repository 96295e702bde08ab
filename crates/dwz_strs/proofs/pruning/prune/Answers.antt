use Rattle.dwz_strs.proofs.MovedLemmas.{same_results, texts_of}
use Rattle.dwz_strs.proofs.pruning.prune.Goals as goal

pub prune_sorted-requires-clause-texts : goal.prune_sorted-requires-clause-texts
prune_sorted-requires-clause-texts c = texts_of c.args.section.now c.args.uses.now c.in_ok-sorted.sorted.items c.requires c.in_ok-sorted.ensures.adds_none

pub returns : goal.returns
returns c =
    same_results c.args.section.now c.in_ok-sorted.sorted.items c.args.uses.now c.in_ok-sorted.ensures.adds_none c.in_ok-sorted.ensures.keeps c.prune_sorted.result c.prune_sorted.ensures
