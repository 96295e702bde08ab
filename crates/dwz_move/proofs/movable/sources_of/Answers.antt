use Rattle.std.proofs.Common.{ℕ, List, ◌++◌, map, take, ap, ◌∙◌, arith}
use Rattle.dwz_groups.specs.declared.groups.Edge.{Edge}
use Rattle.dwz_move.specs.Sources.{source, sources_from}
use Rattle.dwz_move.proofs.SourceLemmas.{sources_next}
use Rattle.dwz_move.proofs.movable.sources_of.Goals as goal

pub loop-top-preserved : goal.loop-top-preserved
loop-top-preserved c =
    c.in_ok-add_sources.ensures
    ∙ ap (λ (w : List Edge). w ++ map (source c.loop-top.top) c.get.result.now) c.loop-top.invariant
    ∙ ap (λ (ts : List ℕ). sources_from 0 (take c.loop-top.top c.args.targets.now) ++ map (source c.loop-top.top) ts) c.get.ensures
    ∙ sources_next c.loop-top.top c.args.targets.now (omega (arith, c.loop-top-test.true))
