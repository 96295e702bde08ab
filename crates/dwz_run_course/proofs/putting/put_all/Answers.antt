use Rattle.std.proofs.Common.{◌≡◌, rules}
use Rattle.dwz_run_course.proofs.PutSteps.{one_more_by}
use Rattle.dwz_run_course.proofs.putting.put_all.Goals as goal

pub loop-ready-preserved : goal.loop-ready-preserved
loop-ready-preserved g c =
    let r = c.in-Some.ready in
    let named : c.into_vec.result.items ≡ r.put.name = search rules in
    let is_bytes : c.as_slice.result.now ≡ r.put.bytes = search rules in (
      one_more_by _ _ _ _ _ _ r c.into_vec.result.items c.as_slice.result.now c.loop-ready.invariant.0 c.in-Some.ensures.steps.0 named is_bytes c.in-Ok.ensures.done c.in-Ok.ensures.stored
          c.in-Ok.ensures.ok c.in-Ok.ensures.never_falls,
      search rules,
      search rules,
    )
