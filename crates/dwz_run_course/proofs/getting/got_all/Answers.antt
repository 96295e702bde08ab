use Rattle.std.proofs.Common.{rules, ◌≡◌, ◌∙◌, length, true, false}
use Rattle.std.proofs.lemmas.List.{map-append}
use Rattle.dwz_run_course.specs.Gets.{is_longer_than}
use Rattle.dwz_run_course.proofs.GetSteps.{got_last, got_next}
use Rattle.dwz_run_course.proofs.getting.got_all.Goals as goal

pub returns-then-ends-clause-got : goal.returns-then-ends-clause-got
returns-then-ends-clause-got g c =
    let long : true ≡ is_longer_than c.loop-i.longest c.loop-i.before c.in-Ok.content.items = rw (← c.deref.ensures.value) c.if-ends.ensures in
    rw (c.in_ok-push.ensures.items, map-append)
    (got_last _ _ _ _ _ c.args.names.now c.loop-i.i _ _ c.in-Ok.content.items c.loop-i.before c.loop-i-test.true c.loop-i.invariant.0 c.in-Ok.ensures.content long)

pub loop-i-preserved : goal.loop-i-preserved
loop-i-preserved g c =
    let len : c.len-len.result ≡ length c.in-Ok.content.items = search rules in
    let short : false ≡ is_longer_than c.loop-i.longest c.loop-i.before c.in-Ok.content.items = rw (← c.deref.ensures.value) c.if-ends.ensures in (
      rw (c.in_ok-push.ensures.items, map-append, len)
          (got_next _ _ _ _ _ _ c.args.names.now c.loop-i.i _ _ c.in-Ok.content.items c.loop-i.before c.loop-i-test.true c.loop-i.invariant.0 c.in-Ok.ensures.content short c.get.ensures.leaves c.get.ensures.never_falls),
      c.in-Ok.ensures.ok ∙ c.loop-i.invariant.1,
    )
