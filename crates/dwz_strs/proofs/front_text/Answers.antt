use Rattle.std.proofs.Common.{sym}
use Rattle.dwz_strs.proofs.FirstLemmas.{none_first, some_first}
use Rattle.dwz_strs.proofs.front_text.Goals as goal

pub returns-in-None : goal.returns-in-None
returns-in-None c = sym (none_first c.args.bytes.now c.in-None.ensures)

pub returns-in-Some : goal.returns-in-Some
returns-in-Some c = sym (some_first c.args.bytes.now c.in-Some.end c.in-Some.ensures)
