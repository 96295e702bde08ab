use Rattle.std.proofs.Common.{arith}
use Rattle.std.proofs.lemmas.Grind.{common_steps}
use Rattle.dwz_run_files.proofs.MoveSteps.{stay}
use Rattle.dwz_run_files.proofs.moving.texts_of_file.Goals as goal

pub returns-in_default : goal.returns-in_default
returns-in_default c = stay c.args.pruned.now c.args.file c.args.texts.items (grind (arith, common_steps))

pub returns-in_default-2 : goal.returns-in_default-2
returns-in_default-2 c = stay c.args.pruned.now c.args.file c.args.texts.items (grind (arith, common_steps))
