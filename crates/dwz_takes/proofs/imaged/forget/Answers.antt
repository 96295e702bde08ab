use Rattle.std.proofs.Common.{ℕ, ◌<◌, List, length, get_or, subst, arith}
use Rattle.std.proofs.lemmas.List.{take_all}
use Rattle.dwz_model.proofs.ListFacts.{in_at}
use Rattle.dwz_takes.proofs.ImageFacts.{AreLeftOf, forget_all, forget_one}
use Rattle.dwz_takes.proofs.imaged.forget.Goals as goal

pub bounds-classes-top : goal.bounds-classes-top
bounds-classes-top c =
    let l : c.loop-top.top-index < length c.args.tops.now = omega arith in
    c.requires.tops (get_or c.args.tops.now c.loop-top.top-index 0) (in_at c.args.tops.now c.loop-top.top-index l)

pub bounds-firsts-classes : goal.bounds-firsts-classes
bounds-firsts-classes c =
    let l : c.loop-top.top-index < length c.args.tops.now = omega arith in
    let low = c.requires.classes (get_or c.args.tops.now c.loop-top.top-index 0) (in_at c.args.tops.now c.loop-top.top-index l) in
    omega arith

pub loop-top-preserved : goal.loop-top-preserved
loop-top-preserved c =
    let l : c.loop-top.top-index < length c.args.tops.now = omega arith in
    let low = c.requires.classes (get_or c.args.tops.now c.loop-top.top-index 0) (in_at c.args.tops.now c.loop-top.top-index l) in
    forget_one c.args.classes.now c.args.tops.now c.loop-top.top-index c.args.firsts.now c.loop-top.firsts l (omega arith) c.loop-top.invariant

pub returns : goal.returns
returns c = forget_all c.args.classes.now c.args.tops.now c.args.firsts.now c.loop-top.firsts c.requires.only
    (subst (λ (ts : List ℕ). AreLeftOf c.args.classes.now ts c.args.firsts.now c.loop-top.firsts) (take_all c.loop-top.top-index c.args.tops.now (omega arith)) c.loop-top.invariant)
