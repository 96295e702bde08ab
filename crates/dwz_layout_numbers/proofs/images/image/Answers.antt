use Rattle.dwz_layout_numbers.proofs.ImageSteps.{image_none, image_some}
use Rattle.dwz_layout_numbers.proofs.images.image.Goals as goal

pub returns-in-Some : goal.returns-in-Some
returns-in-Some c = λ docs m names planned file. image_some docs m c.args.plan.now c.args.tops.now names c.args.index.now c.args.start c.args.entry c.in-Some.top c.in_top.result
    planned file c.requires.there
    (λ s e. c.in-Some.ensures names s file.shows e) c.in_top.ensures

pub returns-in-None : goal.returns-in-None
returns-in-None c = λ docs m names planned file. image_none docs m names c.args.index.now c.args.start c.args.entry file c.requires.there (λ s e. c.in-None.ensures names s file.shows e)
