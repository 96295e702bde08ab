use Rattle.dwz_elf.proofs.OutputLemmas.{all_headers, one_header}
use Rattle.dwz_elf.proofs.output.put_headers.Goals as goal

pub loop-index-preserved : goal.loop-index-preserved
loop-index-preserved c =
    one_header c.args.input.now c.args.moved.now c.args.places.now c.args.sections.now c.loop-index.index _ _ _ c.stored_header.result.now _ c.requires c.loop-index-test.true
    c.stored_header.ensures c.in_ok-put_header.ensures c.loop-index.invariant

pub returns : goal.returns
returns c = all_headers c.args.input.now c.args.moved.now c.args.sections.now c.loop-index.index _ _ c.loop-index-test.false c.loop-index.invariant
