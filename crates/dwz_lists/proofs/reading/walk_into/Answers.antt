use Rattle.std.proofs.Common.{ℕ, Option, Ok, subst, arith}
use Rattle.std.proofs.lemmas.Result.{err_from_is_err_and}
use Rattle.dwz_expr.specs.Gathering.{added}
use Rattle.dwz_expr.proofs.LoopLemmas.{more_grow}
use Rattle.dwz_lists.specs.Entries.{ReadsEntry}
use Rattle.dwz_lists.proofs.AskLemmas.{walk_begins, walk_ends, walk_fails, walk_more}
use Rattle.dwz_lists.proofs.reading.walk_into.Goals as goal

pub loop-next-init : goal.loop-next-init
loop-next-init c = walk_begins c.args.section.now c.args.at c.args.operands.now.items (omega (arith, c.requires))

pub entry_into-requires : goal.entry_into-requires
entry_into-requires c = c.loop-next.invariant.within

pub loop-next-preserved : goal.loop-next-preserved
loop-next-preserved c =
    let found = subst (λ (o : Option ℕ). ReadsEntry c.args.section.now c.loop-next.place (added c.loop-next.operands.items c.entry_into.new.operands.items) (Ok o)) c.in-Some.is
    c.in_ok-next.ensures.found in
    walk_more c.args.section.now c.args.at c.args.operands.now.items c.loop-next.operands.items c.entry_into.new.operands.items c.loop-next.place c.loop-next.invariant c.in_ok-next.ensures.grows
    c.in-Some.next found

pub loop-next-smaller : goal.loop-next-smaller
loop-next-smaller c =
    let found = subst (λ (o : Option ℕ). ReadsEntry c.args.section.now c.loop-next.place (added c.loop-next.operands.items c.entry_into.new.operands.items) (Ok o)) c.in-Some.is
    c.in_ok-next.ensures.found in
    omega (arith, found.rises, found.within)

pub returns-in_err-next-clause-found : goal.returns-in_err-next-clause-found
returns-in_err-next-clause-found c =
    let p = err_from_is_err_and c.from_residual.result c.from_residual.ensures.1 in
    rw (p.1, p.2) (walk_fails c.args.section.now c.args.at c.args.operands.now.items c.loop-next.operands.items c.entry_into.new.operands.items c.loop-next.place c.loop-next.invariant
    c.in_err-next.ensures.grows c.in_err-next.field-0.0 c.in_err-next.ensures.found)

pub returns-in_err-next-clause-grows : goal.returns-in_err-next-clause-grows
returns-in_err-next-clause-grows c = more_grow c.args.operands.now.items c.loop-next.operands.items c.entry_into.new.operands.items _ c.loop-next.invariant.grows c.in_err-next.ensures.grows

pub returns-in-None-clause-found : goal.returns-in-None-clause-found
returns-in-None-clause-found c =
    let found = subst (λ (o : Option ℕ). ReadsEntry c.args.section.now c.loop-next.place (added c.loop-next.operands.items c.entry_into.new.operands.items) (Ok o)) c.in-None.is
    c.in_ok-next.ensures.found in
    walk_ends c.args.section.now c.args.at c.args.operands.now.items c.loop-next.operands.items c.entry_into.new.operands.items c.loop-next.place c.loop-next.invariant c.in_ok-next.ensures.grows
    found.0 found.1

pub returns-in-None-clause-grows : goal.returns-in-None-clause-grows
returns-in-None-clause-grows c = more_grow c.args.operands.now.items c.loop-next.operands.items c.entry_into.new.operands.items _ c.loop-next.invariant.grows c.in_ok-next.ensures.grows
