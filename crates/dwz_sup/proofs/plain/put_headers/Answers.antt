use Rattle.dwz_sup.proofs.HeaderSteps.{all_headers, next_header}
use Rattle.dwz_sup.proofs.plain.put_headers.Goals as goal

pub loop-section-preserved : goal.loop-section-preserved
loop-section-preserved c =
    next_header c.args.out.now.items c.loop-section.out.items c.put_header.new.out.items c.loop-section.name c.loop-section.at c.loop-section.section-index c.args.sections.now _
    c.loop-section-test.true
    c.in_ok-put_header.ensures c.loop-section.invariant

pub returns : goal.returns
returns c =
    all_headers c.args.out.now.items c.loop-section.out.items c.loop-section.name c.loop-section.at c.loop-section.section-index c.args.sections.now c.loop-section-test.false c.loop-section.invariant
