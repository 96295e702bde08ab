use Rattle.std.proofs.Common.{sym}
use Rattle.std.proofs.lemmas.List.{get_or-map}
use Rattle.dwz_plan.proofs.gain.weight_at.Goals as goal

pub returns : goal.returns
returns c = sym (get_or-map (λ row. row.weight) c.args.rows.now c.args.top _ 0 c.requires)
