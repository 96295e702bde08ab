use Rattle.std.proofs.Common.{◌∙◌, ℕ, ap, fold, pos}
use Rattle.std.specs.Prelude.{◌/◌}
use Rattle.std.proofs.lemmas.List.{take_all}
use Rattle.dwz_model.specs.declared.place.Pair.{Pair}
use Rattle.dwz_def_reading.specs.Abbrevs.{children_byte}
use Rattle.dwz_layout.specs.Keys.{mixed}
use Rattle.dwz_layout.specs.Slots.{home_of, mixed_pair}
use Rattle.dwz_layout.proofs.SlotLemmas.{home_more}
use Rattle.dwz_layout.proofs.slots.home.Goals as goal

-- where there is no pair
abbrev no_pair : Pair
no_pair = record { name = 0; form = 0; constant = pos 0 }

pub loop-pair-preserved : goal.loop-pair-preserved
loop-pair-preserved c =
    home_more c.args.pairs.now c.loop-pair.pair-index no_pair c.loop-pair-test.true (mixed c.args.tag (children_byte c.args.children)) c.loop-pair.hash c.word_of-word.result c.mix-hash-in-loop-pair.result
    c.loop-pair.invariant c.word_of-word.ensures c.mix-hash-in-loop-pair.ensures

pub returns-clause-value : goal.returns-clause-value
unfolding home_of
returns-clause-value c =
    ap (λ (h : ℕ). h / 0x0020_0000_0000_0000)
    (c.loop-pair.invariant ∙ ap (fold mixed_pair (mixed c.args.tag (children_byte c.args.children))) (take_all c.loop-pair.pair-index c.args.pairs.now c.loop-pair-test.false))
