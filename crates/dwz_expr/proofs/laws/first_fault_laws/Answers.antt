use Rattle.std.proofs.Common.{Option, ap, ◌∙◌}
use Rattle.dwz_def_reading.specs.declared.exprs.Operand.{Operand}
use Rattle.dwz_def_reading.specs.Exprs.{any_operands, expr_at}
use Rattle.dwz_expr.specs.FirstFault.{unless_one}
use Rattle.dwz_expr.proofs.laws.first_fault_laws.Goals as goal

pub returns-clause-named : goal.returns-clause-named
returns-clause-named c = λ section i operands asks context same none. asks context same ∙ ap (λ (o : Option Operand). unless_one context (expr_at (any_operands section) i) o) none

pub returns-clause-unnamed : goal.returns-clause-unnamed
returns-clause-unnamed c = λ section i operands asks context same o some. asks context same ∙ ap (λ (p : Option Operand). unless_one context (expr_at (any_operands section) i) p) some
