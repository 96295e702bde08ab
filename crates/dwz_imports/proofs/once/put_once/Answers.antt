use Rattle.std.proofs.Common.{◌<◌, length, get_or, ap, refl, arith, ◌∙◌}
use Rattle.dwz_imports.proofs.OnceLemmas.{once_none, once_pass_as, once_put_as}
use Rattle.dwz_imports.proofs.once.put_once.Goals as goal
use Rattle.dwz_imports.proofs.once.put_once.Goals.{then-marks-number+in_ok-push, else-marks-number}

pub loop-number-init : goal.loop-number-init
loop-number-init c = once_none c.args.edges.now.items c.args.marks.now c.args.key c.args.numbers.now c.requires.marks

pub loop-number-preserved : goal.loop-number-preserved
loop-number-preserved c =
    let i = c.loop-number.number-index in
    let n = get_or c.args.numbers.now i 0 in
    let l : i < length c.args.numbers.now = omega arith in
    let there : n < length c.loop-number.marks = (let low = c.requires.numbers i 0 l in let len = c.loop-number.invariant.len in omega arith) in
    elim c.if-marks-number.branch [
      | then-marks-number+in_ok-push w ↦
          once_put_as c.args.edges.now.items c.loop-number.edges.items c.if-marks-number.edges.items
          (length c.args.marks.now) c.loop-number.marks c.if-marks-number.marks c.args.key i c.args.numbers.now n l refl
          there w.if-marks-number.true (ap (λ (v : _). v.items) w.edges-is ∙ w.in_ok-push.ensures.items) w.marks-is c.loop-number.invariant
      | else-marks-number w ↦
          once_pass_as c.args.edges.now.items c.loop-number.edges.items c.if-marks-number.edges.items
          (length c.args.marks.now) c.loop-number.marks c.if-marks-number.marks c.args.key i c.args.numbers.now n l refl
          there w.if-marks-number.false (ap (λ (v : _). v.items) w.edges-is) w.marks-is c.loop-number.invariant
    ]
