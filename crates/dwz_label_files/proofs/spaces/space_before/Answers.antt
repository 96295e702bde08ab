use Rattle.std.proofs.Common.{◌-◌, refl}
use Rattle.dwz_label_files.proofs.SpaceLemmas.{before_there}
use Rattle.dwz_label_files.proofs.spaces.space_before.Goals as goal

pub returns : goal.returns
returns c = before_there c.args.first c.args.spaces.now c.args.number (c.args.number - c.args.first - 1) _ c.if-number-first.false refl c.if-i-spaces.false
