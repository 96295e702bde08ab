use Rattle.std.proofs.Common.{◌+◌}
use Rattle.dwz_lines.proofs.WriteLemmas.{first_bytes}
use Rattle.dwz_lines.proofs.writing.before.Goals as goal

pub returns : goal.returns
returns c = first_bytes (c.args.tables + 8) c.args.tables c.to_le_bytes-unit.result c.to_le_bytes-header.result c.to_le_bytes-unit.ensures c.to_le_bytes-header.ensures
