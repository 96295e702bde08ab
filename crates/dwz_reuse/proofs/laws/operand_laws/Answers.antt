use Rattle.dwz_reuse.proofs.OperandRows.{operands_law}
use Rattle.dwz_reuse.proofs.laws.operand_laws.Goals as goal

pub returns : goal.returns
returns c = operands_law
