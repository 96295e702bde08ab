use Rattle.dwz_elf.proofs.HeaderLemmas.{all_read, pushed}
use Rattle.dwz_expand_file.proofs.headers.headers_from.Goals as goal

pub loop-index-preserved : goal.loop-index-preserved
loop-index-preserved c =
    pushed c.args.bytes.now c.args.first c.loop-index.index c.args.count c.header_at.result c.loop-index.headers.items c.push.new.self.items _
    c.in_ok-push.ensures.items c.header_at.ensures c.loop-index-test.true c.loop-index.invariant

pub returns : goal.returns
returns c = all_read c.args.bytes.now c.args.first c.loop-index.index c.args.count _ _ c.loop-index-test.false c.loop-index.invariant
