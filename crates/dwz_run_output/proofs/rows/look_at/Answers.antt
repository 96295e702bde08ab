use Rattle.std.proofs.Common.{arith}
use Rattle.dwz_def_reading.proofs.WrittenLemmas.{bytes_fit}
use Rattle.dwz_run_output.proofs.rows.look_at.Goals as goal

pub returns : goal.returns
returns c = bytes_fit c.args._bytes.now (λ k. omega (arith, c.type_inv._bytes k))
