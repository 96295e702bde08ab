use Rattle.std.proofs.Common.{sym, ◌∙◌}
use Rattle.dwz_reuse.proofs.IntoSteps.{stands_else, stands_top}
use Rattle.dwz_reuse.proofs.into.top_of.Goals as goal

pub returns-in-InTop : goal.returns-in-InTop
returns-in-InTop c = λ names entries name shows got. stands_top name.1 c.in-InTop.top (sym (c.stands.ensures names entries name shows got) ∙ c.in-InTop.is)

pub returns-in_default : goal.returns-in_default
returns-in_default c = λ names entries name shows got. stands_else name.1 c.stands.result (c.stands.ensures names entries name shows got) c.in_default.not-InTop
