use Rattle.std.proofs.Common.{arith}
use Rattle.dwz_def_reading.proofs.ListFacts.{item_got}
use Rattle.dwz_graph.proofs.FilesFew.{all_few}
use Rattle.dwz_reuse.proofs.SpaceFiles.{entries_at, one_more}
use Rattle.dwz_reuse.proofs.file_spaces.file_names.Goals as goal

pub read-requires : goal.read-requires
read-requires c =
    let files = c.args.files.now in
    let few = all_few c.requires.0 files c.requires.1 in
    let low = entries_at files c.loop-file.file-index c.file-item.result (item_got files c.loop-file.file-index c.file-item.result c.loop-file-test.true c.file-item.is) in
    record { room = record { tops = omega (arith, few, low); lone = omega (arith, few, low) } }

pub loop-file-preserved : goal.loop-file-preserved
loop-file-preserved c =
    let files = c.args.files.now in
    let k = c.loop-file.file-index in
    let f = c.file-item.result in
    one_more files k c.loop-file.indexes.items c.loop-file.invariant f c.in_ok-read.field-0 (item_got files k f c.loop-file-test.true c.file-item.is) c.push.new.self.items c.in_ok-push.ensures.items
    (λ around said means. c.in_ok-read.ensures.names around said means)
