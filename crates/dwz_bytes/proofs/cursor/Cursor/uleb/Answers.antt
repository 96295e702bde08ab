use Rattle.std.proofs.Common.{ap, sym, ◌∙◌}
use Rattle.dwz_bytes.specs.Reading.{uleb_at}
use Rattle.dwz_bytes.proofs.LebLemmas.{one_byte}
use Rattle.dwz_bytes.proofs.cursor.Cursor.uleb.Goals as goal

pub returns-then-self-lt128 : goal.returns-then-self-lt128
returns-then-self-lt128 c = ap uleb_at (sym c.self.view_is) ∙ one_byte c.self.inside.bytes.now c.self.inside.at c.if-self.true c.if-self-lt128.true
