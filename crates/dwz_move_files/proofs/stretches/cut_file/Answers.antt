use Rattle.std.proofs.Common.{◌+◌, arith}
use Rattle.dwz_move_files.proofs.StretchSteps.{one_cut}
use Rattle.dwz_move_files.proofs.stretches.cut_file.Goals as goal

pub loop-start-preserved : goal.loop-start-preserved
loop-start-preserved c = record {
  low = omega arith;
  cut = λ docs indexes x there len are.
      one_cut docs indexes c.loop-start.stretches.items c.push.new.self.items c.args.file c.loop-start.start (c.loop-start.start + c.max-size.result) x there (omega arith)
      (omega arith) c.in_ok-push.ensures.items
      (c.loop-start.invariant.cut docs indexes x there len are);
}

pub returns : goal.returns
returns c = λ docs indexes x there len are.
    one_cut docs indexes c.loop-start.stretches.items c.push-2.new.self.items c.args.file c.loop-start.start c.args.tops x there c.loop-start.invariant.low (omega arith) c.in_ok-push-2.ensures.items
    (c.loop-start.invariant.cut docs indexes x there len are)
