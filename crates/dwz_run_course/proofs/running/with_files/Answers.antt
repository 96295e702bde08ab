use Rattle.std.proofs.Common.{List, None, refl, map, ap, ◌∙◌}
use Rattle.dwz_outside.specs.declared.puts.Put.{Put}
use Rattle.dwz_run_course.specs.Ended.{status_of}
use Rattle.dwz_run_course.specs.Ready.{ready_of}
use Rattle.dwz_run_course.proofs.Endings.{all_put, all_said, came_of, kept_by, of_bytes, refused_by, stopped, stopped_by, with_puts}
use Rattle.dwz_run_course.proofs.running.with_files.Goals as goal

pub returns-in-Err-Refused-clause-ends : goal.returns-in-Err-Refused-clause-ends
returns-in-Err-Refused-clause-ends g c words lawful =
    let given = rw c.in-Err-Refused.field-0-is at c.in-Err-Refused.ensures in
    let why = c.requires.answers _ _ _ _ given in
    let came = came_of _ _ words _ _ c.args.options.now c.in-Ok.names.items c.deref.result.now c.in-Ok-got_all.contents.items c.deref-3.result.now _ c.requires.files lawful c.deref.ensures.value c.in-Ok.ensures c.deref-3.ensures.value c.longest_behind.ensures
    c.in-Ok-got_all.ensures.got (of_bytes c.in-Ok-got_all.contents.items _ c.deref-2.ensures.value c.look_at_all.ensures) why.0 in
    refused_by _ _ words _ _ c.was_refused.result c.in-Err-Refused.refusal c.args.options.now None came c.requires.files refl c.got_all.ensures.leaves c.was_refused.ensures

pub returns-in-Err-Refused-clause-reads : goal.returns-in-Err-Refused-clause-reads
returns-in-Err-Refused-clause-reads g c = kept_by (status_of c.was_refused.result) _ _ c.in-Ok-got_all.ensures.reads

pub returns-in-Ok-put_all-clause-ends : goal.returns-in-Ok-put_all-clause-ends
returns-in-Ok-put_all-clause-ends g c words lawful =
    let came = came_of _ _ words _ _ c.args.options.now c.in-Ok.names.items c.deref.result.now c.in-Ok-got_all.contents.items c.deref-3.result.now _ c.requires.files lawful c.deref.ensures.value c.in-Ok.ensures c.deref-3.ensures.value c.longest_behind.ensures c.in-Ok-got_all.ensures.got
    (of_bytes c.in-Ok-got_all.contents.items _ c.deref-2.ensures.value c.look_at_all.ensures) (c.requires.answers _ _ _ _ c.in-Ok-answer.ensures).0 in
    let put = with_puts _ _ _ _ c.requires.files (all_put _ _ _ c.in-Ok-made_ready.all.items _ c.got_all.ensures.leaves c.in-Ok-put_all.ensures.done
    (c.in-Ok-made_ready.ensures ∙ ap (λ (puts : List Put). map ready_of puts) c.into_vec.ensures)) in
    all_said _ _ words _ _ c.all_put.result _ c.in-Ok-answer.output came put c.in-Ok-done_text.ensures c.all_put.ensures.status c.all_put.ensures.text

pub returns-in-Ok-put_all-clause-reads : goal.returns-in-Ok-put_all-clause-reads
returns-in-Ok-put_all-clause-reads g c = kept_by (status_of c.all_put.result) _ _ (c.put_all.ensures.reads ∙ c.in-Ok-got_all.ensures.reads)

pub returns-clause-ends : goal.returns-clause-ends
returns-clause-ends g c words lawful =
    let s = stopped _ _ _ c.in-Ok-made_ready.all.items _ c.in-Err.text c.got_all.ensures.leaves c.in-Err.ensures.stopped
    (c.in-Ok-made_ready.ensures ∙ ap (λ (puts : List Put). map ready_of puts) c.into_vec.ensures) in (
      c.in-Ok-answer.output,
      came_of _ _ words _ _ c.args.options.now c.in-Ok.names.items c.deref.result.now c.in-Ok-got_all.contents.items c.deref-3.result.now _ c.requires.files lawful c.deref.ensures.value c.in-Ok.ensures c.deref-3.ensures.value c.longest_behind.ensures c.in-Ok-got_all.ensures.got
          (of_bytes c.in-Ok-got_all.contents.items _ c.deref-2.ensures.value c.look_at_all.ensures) (c.requires.answers _ _ _ _ c.in-Ok-answer.ensures).0,
      s.0,
      stopped_by _ _ _ _ _ c.requires.files s.1,
      s.2,
    )
