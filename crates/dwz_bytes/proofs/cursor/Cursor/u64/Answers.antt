use Rattle.std.proofs.Common.{ap, sym, ◌∙◌}
use Rattle.dwz_bytes.specs.Reading.{fixed_at}
use Rattle.dwz_bytes.proofs.FixedLemmas.{eight_at}
use Rattle.dwz_bytes.proofs.cursor.Cursor.u64.Goals as goal

pub returns : goal.returns
returns c = ap (fixed_at 8) (sym c.self.view_is) ∙ eight_at c.self.inside.bytes.now c.self.inside.at _ c.if-rest-lt8.false c.first_u64.ensures
