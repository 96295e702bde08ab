use Rattle.std.proofs.Common.{ap, ◌∙◌}
use Rattle.dwz_def_reading.specs.Meanings.{base_in}
use Rattle.dwz_graph_resolve.proofs.here.base_of.Goals as goal

pub returns-in-None : goal.returns-in-None
returns-in-None c = λ row found. ap base_in (c.in-None.ensures.first row found)

pub returns-in-Some : goal.returns-in-Some
returns-in-Some c = λ row found. c.base_in.ensures ∙ ap base_in (c.in-Some.ensures.first row found)
