use Rattle.std.proofs.Common.{refl}
use Rattle.dwz_rounds.proofs.Marking.{unmarked-none}
use Rattle.dwz_rounds.proofs.marked.unmark.Goals as goal

pub loop-number-init : goal.loop-number-init
loop-number-init c = record { len = refl; unmarked = unmarked-none c.args.marks.now c.args.list.now c.requires }
