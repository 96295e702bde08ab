use Rattle.std.proofs.Common.{Some}
use Rattle.dwz_run_course.proofs.Endings.{all_said, made_of, no_puts, of_bytes, refused_by, without_puts}
use Rattle.dwz_run_course.proofs.running.run_demo.Goals as goal

pub returns-in-Err-Refused : goal.returns-in-Err-Refused
returns-in-Err-Refused g c words lawful told =
    let given = rw c.in-Err-Refused.field-0-is at c.in-Err-Refused.ensures in
    let why = c.requires.answers _ _ _ _ given in
    let came = made_of _ _ words told _ c.args.options.now c.in-Ok-demo_options.asked c.args.n c.in-Ok.contents.items c.deref-2.result.now c.requires.demo lawful c.in-Ok-demo_options.ensures
    c.deref-2.ensures.value c.in-Ok.ensures (of_bytes c.in-Ok.contents.items _ c.deref.ensures.value c.look_at_all.ensures) why.0 in
    refused_by _ _ words told told c.was_refused.result c.in-Err-Refused.refusal c.in-Ok-demo_options.asked (Some c.args.n) came c.requires.demo c.in-Ok-demo_options.ensures (no_puts told)
    c.was_refused.ensures

pub returns-in-Ok-done_text : goal.returns-in-Ok-done_text
returns-in-Ok-done_text g c words lawful told =
    let came = made_of _ _ words told _ c.args.options.now c.in-Ok-demo_options.asked c.args.n c.in-Ok.contents.items c.deref-2.result.now c.requires.demo lawful c.in-Ok-demo_options.ensures
    c.deref-2.ensures.value c.in-Ok.ensures (of_bytes c.in-Ok.contents.items _ c.deref.ensures.value c.look_at_all.ensures) (c.requires.answers _ _ _ _ c.in-Ok-answer.ensures).0 in
    all_said _ _ words told told c.all_put.result _ c.in-Ok-answer.output came (without_puts _ told _ c.args.n c.requires.demo) c.in-Ok-done_text.ensures c.all_put.ensures.status
    c.all_put.ensures.text
