use Rattle.std.proofs.Common.{◌+◌, ◌-◌, ◌/◌, ap, arith}
use Rattle.dwz_graph.specs.declared.index.Starts.{Starts}
use Rattle.dwz_label_files.proofs.SearchLemmas.{all_between, lower, one_left, upper}
use Rattle.dwz_label_files.proofs.search.file_of.Goals as goal

pub halving-init : goal.halving-init
halving-init c = let run = c.args.run.now in all_between run.graph.now.given run.indexes.now c.args.n c.requires.run.indexed c.requires.there

pub halving-preserved-then-starts-n : goal.halving-preserved-then-starts-n
halving-preserved-then-starts-n c =
    let run = c.args.run.now in
    let top = ap (λ (w : Starts). w.top) c.starts-starts.ensures in
    upper run.graph.now.given run.files.now run.indexes.now c.requires.run.kept c.requires.run.indexed c.args.n c.halving.low c.halving.high (c.halving.low + (c.halving.high - c.halving.low) / 2)
    c.index_at.result.now
    c.halving.invariant (omega arith) (omega arith) c.index_at.ensures (omega arith)

pub halving-preserved : goal.halving-preserved
halving-preserved c =
    let run = c.args.run.now in
    let top = ap (λ (w : Starts). w.top) c.starts-starts.ensures in
    lower run.graph.now.given run.files.now run.indexes.now c.requires.run.kept c.requires.run.indexed c.args.n c.halving.low c.halving.high (c.halving.low + (c.halving.high - c.halving.low) / 2)
    c.index_at.result.now
    c.halving.invariant (omega arith) (omega arith) c.index_at.ensures (omega arith)

pub returns : goal.returns
returns c =
    let run = c.args.run.now in
    let h = c.halving.invariant in
    let some = h.some in
    one_left run.graph.now.given run.files.now run.indexes.now c.requires.run.kept c.requires.run.indexed c.args.n c.halving.low c.halving.high h (omega arith)
