use Rattle.std.proofs.Common.{◌<◌, length, get_or, sym, ◌∙◌, arith}
use Rattle.std.proofs.lemmas.Bool.{false≢true}
use Rattle.dwz_model.proofs.ListFacts.{in_at}
use Rattle.dwz_groups.specs.Spreading.{IsMarked}
use Rattle.dwz_takes.proofs.MarkFacts.{each_next}
use Rattle.dwz_takes.proofs.flags.has_classes.Goals as goal

pub bounds-classes-top : goal.bounds-classes-top
bounds-classes-top c =
    let l : c.loop-top.top-index < length c.args.tops.now = omega arith in
    c.requires.tops (get_or c.args.tops.now c.loop-top.top-index 0) (in_at c.args.tops.now c.loop-top.top-index l)

pub bounds-flags-classes : goal.bounds-flags-classes
bounds-flags-classes c =
    let l : c.loop-top.top-index < length c.args.tops.now = omega arith in
    c.requires.classes (get_or c.args.tops.now c.loop-top.top-index 0) (in_at c.args.tops.now c.loop-top.top-index l)

pub returns-then-not-flags-classes : goal.returns-then-not-flags-classes
returns-then-not-flags-classes c =
    let l : c.loop-top.top-index < length c.args.tops.now = omega arith in (
      λ no. absurd (false≢true no),
      λ all. absurd (false≢true (sym c.if-not-flags-classes.true ∙ all (get_or c.args.tops.now c.loop-top.top-index 0) (in_at c.args.tops.now c.loop-top.top-index l))),
    )

pub loop-top-preserved : goal.loop-top-preserved
loop-top-preserved c =
    each_next (λ t. IsMarked c.args.flags.now (get_or c.args.classes.now t 0)) c.args.tops.now c.loop-top.top-index (omega arith) c.loop-top.invariant c.if-not-flags-classes.false
