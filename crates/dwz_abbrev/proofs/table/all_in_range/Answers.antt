use Rattle.std.proofs.Common.{pos}
use Rattle.std.proofs.lemmas.List.Elements.{All-more}
use Rattle.dwz_model.specs.declared.place.Pair.{Pair}
use Rattle.dwz_abbrev.specs.Ranges.{IsInRange}
use Rattle.dwz_abbrev.proofs.table.all_in_range.Goals as goal

-- where there is no pair
abbrev no_pair : Pair
no_pair = record { name = 0; form = 0; constant = pos 0 }

pub loop-pair-preserved : goal.loop-pair-preserved
loop-pair-preserved c = All-more IsInRange c.args.pairs.now c.loop-pair.pair-index no_pair c.loop-pair-test.true c.loop-pair.invariant c.in_range.ensures
