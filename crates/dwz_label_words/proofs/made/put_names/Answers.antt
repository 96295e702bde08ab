use Rattle.dwz_label_words.proofs.NameLemmas.{next_name, no_names}
use Rattle.dwz_label_words.proofs.made.put_names.Goals as goal

pub loop-pair-preserved : goal.loop-pair-preserved
loop-pair-preserved c =
    next_name c.args.pairs.now c.loop-pair.pair-index c.loop-pair.out.items c.put_name.new.out.items _ c.loop-pair-test.true c.in_ok-put_name.ensures c.loop-pair.invariant

pub returns : goal.returns
returns c = no_names c.args.pairs.now c.loop-pair.pair-index c.loop-pair.out.items _ c.loop-pair-test.false c.loop-pair.invariant
