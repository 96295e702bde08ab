use Rattle.std.proofs.Common.{◌∙◌, arith}
use Rattle.dwz_layout.specs.declared.known.TextAt.TheVariants.{Own}
use Rattle.dwz_layout_input.proofs.TextSteps.{name_more, names_all, names_none}
use Rattle.dwz_layout_input.proofs.texts.put_names.Goals as goal

pub loop-i-init : goal.loop-i-init
loop-i-init c = names_none c.args.spaces.now c.args.texts.now c.args.commons.now

pub loop-i-preserved : goal.loop-i-preserved
loop-i-preserved c =
    let texts = c.requires.texts in
    let commons = c.requires.commons in
    name_more c.args.spaces.now c.args.texts.now c.args.commons.now c.loop-i.i (record { row = record { file = 0; entry = 0 }; text = Own 0; common = Own 0 }) (Own 0) c.loop-i.spaces
    (omega arith) (omega arith) (omega arith) c.loop-i.invariant

pub returns : goal.returns
returns c =
    let texts = c.requires.texts in
    let commons = c.requires.commons in
    c.loop-i.invariant ∙ names_all c.args.spaces.now c.args.texts.now c.args.commons.now c.loop-i.i (omega arith) (omega arith) (omega arith)
