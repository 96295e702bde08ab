use Rattle.std.proofs.Common.{List, Ok, sym, ap, ◌∙◌}
use Rattle.dwz_bytes.specs.Input.{input}
use Rattle.dwz_aranges.specs.declared.sets.Set.{Set}
use Rattle.dwz_aranges.specs.Views.{set_view, set_views}
use Rattle.dwz_aranges.proofs.WholeLemmas.{breaks_off, goes_on, is_over, left_of, none_of, sets_into, views_more}
use Rattle.dwz_aranges.proofs.reading.read.Goals as goal

pub returns-in-None : goal.returns-in-None
returns-in-None c =
    sym c.loop-at.invariant.same
    ∙ breaks_off (set_views c.loop-at.sets.items) (input c.args.section.now c.loop-at.at) c.bad_at.result (left_of c.args.section.now c.loop-at.at c.loop-at-test.true)
    (rw c.bad_at.ensures c.in-None.ensures)

pub loop-at-preserved : goal.loop-at-preserved
loop-at-preserved c =
    let is = c.in-Some.ensures in
    let step = goes_on (set_views c.loop-at.sets.items) (input c.args.section.now c.loop-at.at) (input c.args.section.now c.in-Some.behind) (set_view c.in-Some.set)
    (left_of c.args.section.now c.loop-at.at c.loop-at-test.true) is.read in
    let more = ap set_views c.in_ok-push-in-Some.ensures.items ∙ views_more c.loop-at.sets.items c.in-Some.set in
    record { within = is.within; same = ap (λ xs. sets_into xs (input c.args.section.now c.in-Some.behind)) more ∙ sym step ∙ c.loop-at.invariant.same }

pub returns : goal.returns
returns c =
    sym c.loop-at.invariant.same
    ∙ is_over (set_views c.loop-at.sets.items) (input c.args.section.now c.loop-at.at) (none_of c.args.section.now c.loop-at.at c.loop-at-test.false)
    ∙ ap (λ (l : List Set). Ok (set_views l)) (sym c.new.ensures)
