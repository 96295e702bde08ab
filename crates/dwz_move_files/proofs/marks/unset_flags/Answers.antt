use Rattle.std.proofs.Common.{◌+◌, ◌∙◌, false, sym, ap, arith}
use Rattle.std.specs.Prelude.{replicate}
use Rattle.dwz_def_reading.proofs.ListFacts.{item_got}
use Rattle.dwz_graph.specs.declared.index.Starts.{Starts}
use Rattle.dwz_graph.specs.Across.{starts_at}
use Rattle.dwz_graph.proofs.FileCounts.{next_starts_are}
use Rattle.dwz_move_files.proofs.MarkSteps.{put_more, starts_zero}
use Rattle.dwz_move_files.proofs.marks.unset_flags.Goals as goal

pub loop-index-init : goal.loop-index-init
loop-index-init c = λ docs is. c.new-flags.ensures.items ∙ ap (λ (s : Starts). replicate s.top false) (sym (starts_zero docs c.args.indexes.now))

pub loop-index-preserved : goal.loop-index-preserved
loop-index-preserved c = λ docs is. (
    let xs = c.args.indexes.now in
    let k = c.loop-index.index-index in
    let x = c.index-item.result in
    let next = (next_starts_are docs xs is k x (item_got xs k x (omega arith) c.index-item.is)).0 in
    put_more (starts_at docs xs k).top (starts_at docs xs (k + 1)).top x.tops c.loop-index.flags.items c.put_unset.new.flags.items c.tops.result.now (c.loop-index.invariant docs is) c.tops.ensures
    next c.in_ok-put_unset.ensures)
