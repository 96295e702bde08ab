use Rattle.std.proofs.Common.{refl, ap}
use Rattle.dwz_def_output.specs.Refusals.{narrow_at}
use Rattle.dwz_encode_operands.proofs.ListedLemmas.{listed}
use Rattle.dwz_encode_operands.proofs.laws.first_laws.Goals as goal

pub returns-clause-run : goal.returns-clause-run
returns-clause-run c = λ k r file o. refl

pub returns-clause-listed : goal.returns-clause-listed
returns-clause-listed c = λ around raw after rows first none are h. listed around raw after rows none are first h

pub returns-clause-found : goal.returns-clause-found
returns-clause-found c = λ k r file section operands at h. record { operand = h.operand; there = h.there; narrow = h.narrow; least = h.least; fault = ap (narrow_at section) h.stands }

pub returns-clause-none : goal.returns-clause-none
returns-clause-none c = λ k r file section operands none f h. none h.operand h.there h.narrow
