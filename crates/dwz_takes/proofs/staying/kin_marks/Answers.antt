use Rattle.std.proofs.Common.{◌+◌, ◌<◌, Bool, List, Vec, Global, length, get_or, sym, ap, subst, ◌∙◌, arith}
use Rattle.dwz_model.proofs.ListFacts.{in_at}
use Rattle.dwz_takes.specs.Blocked.{AreKinMarks}
use Rattle.dwz_takes.proofs.BlockFacts.{kin_one, kin_skip, other_flags, same_flags}
use Rattle.dwz_takes.proofs.staying.kin_marks.Goals as goal
use Rattle.dwz_takes.proofs.staying.kin_marks.Goals.{then-is_some-taken, else-is_some-taken}

pub index_mut-requires : goal.index_mut-requires
index_mut-requires c =
    let l : c.loop-top.top < length c.args.kin.now = omega arith in
    let low = c.requires.kin (get_or c.args.kin.now c.loop-top.top 0) (in_at c.args.kin.now c.loop-top.top l) in
    let len = c.loop-top.invariant.len in
    omega arith

pub loop-top-preserved : goal.loop-top-preserved
loop-top-preserved c =
    let l : c.loop-top.top < length c.args.kin.now = omega arith in
    let low = c.requires.kin (get_or c.args.kin.now c.loop-top.top 0) (in_at c.args.kin.now c.loop-top.top l) in
    let P : List Bool → Type 0 = λ bs. AreKinMarks c.args.kin.now c.args.images.now (c.loop-top.top + 1) c.args.taken bs in
    elim c.if-is_some-taken.branch [
      | then-is_some-taken w ↦
          subst P (sym (ap (λ (v : Vec Bool Global). v.items) w.flags-is))
          (kin_one c.args.kin.now c.args.images.now c.args.taken c.loop-top.top c.loop-top.flags.items l low (sym c.is_some.ensures ∙ same_flags c.is_some.result c.args.taken w.if-is_some-taken.true)
          c.loop-top.invariant)
      | else-is_some-taken w ↦ subst P (sym (ap (λ (v : Vec Bool Global). v.items) w.flags-is))
          (kin_skip c.args.kin.now c.args.images.now c.args.taken c.loop-top.top c.loop-top.flags.items (λ e. other_flags c.is_some.result c.args.taken w.if-is_some-taken.false (c.is_some.ensures ∙ e)) c.loop-top.invariant)
    ]
