use Rattle.std.proofs.Common.{◌∙◌}
use Rattle.dwz_run_output.proofs.RowsAfter.{lines_end, lines_step}
use Rattle.dwz_run_output.proofs.summary.lines.Goals as goal

pub loop-file-preserved : goal.loop-file-preserved
loop-file-preserved c k o r before bytes =
    lines_step k o r c.loop-file.lines.items c.push.new.self.items _ c.args.names.now c.loop-file.file c.index-names-file.result c.content_of.result.now
    _ _ c.loop-file-test.true c.index-names-file.is (c.content_of.ensures ∙ before c.loop-file.file) (bytes c.loop-file.file)
    (cc (c.in_ok-copy_name.ensures, c.new_length.ensures)) c.in_ok-push.ensures.items
    (c.loop-file.invariant k o r before bytes)

pub returns : goal.returns
returns c k o r before bytes =
    lines_end k o r c.loop-file.lines.items _ c.args.names.now c.loop-file.file c.loop-file-test.false (c.loop-file.invariant k o r before bytes)
