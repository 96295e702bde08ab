use Rattle.std.proofs.Common.{arith}
use Rattle.dwz_def_reading.proofs.WrittenLemmas.{bytes_fit}
use Rattle.dwz_expand_file.proofs.bytes.look_at.Goals as goal

pub returns-clause-bytes : goal.returns-clause-bytes
returns-clause-bytes c = bytes_fit c.args.bytes.now (λ k. omega (arith, c.type_inv.bytes k))
