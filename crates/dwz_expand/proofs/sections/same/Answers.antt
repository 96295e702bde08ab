use Rattle.std.proofs.Common.{◌∙◌}
use Rattle.dwz_expand.proofs.SectionsMade.{same_bytes}
use Rattle.dwz_expand.proofs.sections.same.Goals as goal

pub returns : goal.returns
returns c = c.eq.ensures ∙ same_bytes c.args.old.now c.args.new.now
