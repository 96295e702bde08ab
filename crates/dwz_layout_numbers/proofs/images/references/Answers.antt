use Rattle.dwz_layout_numbers.proofs.ImageSteps.{images_all, images_more}
use Rattle.std.proofs.Common.{arith}
use Rattle.dwz_layout_numbers.proofs.images.references.Goals as goal

pub loop-entry-preserved : goal.loop-entry-preserved
loop-entry-preserved c = λ docs m names planned file. images_more docs m names c.args.refs.now c.loop-entry.images.items c.push.new.self.items c.loop-entry.entry-index c.image.result
    c.loop-entry-test.true
    (c.loop-entry.invariant docs m names planned file) (c.image.ensures docs m names planned file) c.in_ok-push.ensures.items

pub returns : goal.returns
returns c = λ docs m names planned file. images_all docs m names c.args.refs.now c.loop-entry.images.items c.loop-entry.entry-index (omega arith)
    (c.loop-entry.invariant docs m names planned file)
