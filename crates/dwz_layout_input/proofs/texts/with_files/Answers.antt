use Rattle.std.proofs.Common.{arith}
use Rattle.dwz_def_reading.proofs.CaseFacts.{none_left}
use Rattle.dwz_layout_input.specs.Shown.{files_with}
use Rattle.dwz_layout_input.proofs.TextSteps.{files_next, files_out, numbers_out, texts_out}
use Rattle.dwz_layout_input.proofs.texts.with_files.Goals as goal

pub returns : goal.returns
returns c =
    texts_out c.loop-texts.made.items (files_with c.args.rows.items c.args.all.items c.args.numbers.items) c.loop-texts.left.rest.items c.loop-texts.texts-iterator.rest.items
    c.loop-texts.numbered.rest.items (omega (arith, c.loop-texts.texts-iterator.rest.ok, c.in-None.ensures.steps.0)) c.loop-texts.invariant

pub loop-texts-preserved : goal.loop-texts-preserved
loop-texts-preserved c =
    files_next c.loop-texts.left.rest.items c.next-in-loop-texts.new.self.rest.items c.loop-texts.texts-iterator.rest.items c.next.new.self.rest.items c.loop-texts.numbered.rest.items
    c.next-in-loop-texts-2.new.self.rest.items c.loop-texts.made.items c.push.new.self.items
    (files_with c.args.rows.items c.args.all.items c.args.numbers.items) c.in-Some-next.row c.file_with.result c.in-Some.texts c.in-Some-next-2.files c.loop-texts.invariant
    c.in-Some-next.ensures.items c.in-Some.ensures.steps.0 c.in-Some-next-2.ensures.items c.in_ok-push.ensures.items c.file_with.ensures

pub returns-in_default : goal.returns-in_default
returns-in_default c =
    files_out c.loop-texts.made.items (files_with c.args.rows.items c.args.all.items c.args.numbers.items) c.loop-texts.left.rest.items c.loop-texts.texts-iterator.rest.items
    c.loop-texts.numbered.rest.items
    (let none = none_left c.next-in-loop-texts.result _ c.next-in-loop-texts.ensures.variant c.in_default.not-Some in omega (arith, c.loop-texts.left.rest.ok, none)) c.loop-texts.invariant

pub returns-in_default-next : goal.returns-in_default-next
returns-in_default-next c =
    numbers_out c.loop-texts.made.items (files_with c.args.rows.items c.args.all.items c.args.numbers.items) c.loop-texts.left.rest.items c.loop-texts.texts-iterator.rest.items
    c.loop-texts.numbered.rest.items
    (let none = none_left c.next-in-loop-texts-2.result _ c.next-in-loop-texts-2.ensures.variant c.in_default-next.not-Some in omega (arith, c.loop-texts.numbered.rest.ok, none))
    c.loop-texts.invariant
