use Rattle.std.proofs.Common.{◌<◌, length, get_or, sym, ◌∙◌, arith}
use Rattle.std.proofs.lemmas.Bool.{false≢true}
use Rattle.dwz_model.proofs.ListFacts.{in_at}
use Rattle.dwz_groups.specs.Spreading.{IsMarked}
use Rattle.dwz_takes.proofs.MarkFacts.{each_next}
use Rattle.dwz_takes.proofs.flags.has_all.Goals as goal

pub bounds-flags-number : goal.bounds-flags-number
bounds-flags-number c =
    let l : c.loop-number.number-index < length c.args.list.now = omega arith in
    c.requires (get_or c.args.list.now c.loop-number.number-index 0) (in_at c.args.list.now c.loop-number.number-index l)

pub returns-then-not-flags-number : goal.returns-then-not-flags-number
returns-then-not-flags-number c =
    let l : c.loop-number.number-index < length c.args.list.now = omega arith in (
      λ no. absurd (false≢true no),
      λ all. absurd (false≢true (sym c.if-not-flags-number.true ∙ all (get_or c.args.list.now c.loop-number.number-index 0) (in_at c.args.list.now c.loop-number.number-index l))),
    )

pub loop-number-preserved : goal.loop-number-preserved
loop-number-preserved c = each_next (λ n. IsMarked c.args.flags.now n) c.args.list.now c.loop-number.number-index (omega arith) c.loop-number.invariant c.if-not-flags-number.false
