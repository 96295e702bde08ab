use Rattle.dwz_label.specs.LabelLaws.{Passing}
use Rattle.dwz_label.proofs.Bare.{bare_of, top_whole, top_zip}
use Rattle.dwz_label.proofs.LeastAlike.{alike_joined, least_tops}
use Rattle.dwz_label.proofs.NodeLooks.{node_looks, nodes_closed}
use Rattle.dwz_label.proofs.laws.node_laws.Goals as goal

pub returns-clause-bare : goal.returns-clause-bare
returns-clause-bare c test a b = let R = Passing test in (λ h. (bare_of R a b h, top_zip R a b h), λ h. top_whole R a b h.0 h.1)

pub returns-clause-closed : goal.returns-clause-closed
returns-clause-closed c = nodes_closed

pub returns-clause-looks : goal.returns-clause-looks
returns-clause-looks c = node_looks

pub returns-clause-least : goal.returns-clause-least
returns-clause-least c units g least nodes refined = least_tops units g nodes least refined

pub returns-clause-alike : goal.returns-clause-alike
returns-clause-alike c scope units least a b are i j = alike_joined units least are scope a b i j
