use Rattle.dwz_expand_file.proofs.HeaderLemmas.{all_headers, one_header}
use Rattle.dwz_expand_file.proofs.without.put_headers.Goals as goal

pub loop-header-preserved : goal.loop-header-preserved
loop-header-preserved c =
    one_header c.args.input.now c.args.table.now c.args.headers.now c.loop-header.header-index _ _ _ _ c.loop-header-test.true c.in_ok-put_header.ensures c.loop-header.invariant

pub returns : goal.returns
returns c = all_headers c.args.input.now c.args.table.now c.args.headers.now c.loop-header.header-index _ _ c.loop-header-test.false c.loop-header.invariant
