use Rattle.std.proofs.Common.{◌∙◌}
use Rattle.dwz_bytes.proofs.FixedLemmas.{first_eight}
use Rattle.dwz_bytes.proofs.cursor.first_u64.Goals as goal

pub returns : goal.returns
returns c = c.from_le_bytes.ensures ∙ first_eight c.args.rest.now c.requires
