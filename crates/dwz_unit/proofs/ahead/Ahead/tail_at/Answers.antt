use Rattle.dwz_unit.proofs.TailLemmas.{found_before, grows_none}
use Rattle.dwz_unit.proofs.ahead.Ahead.tail_at.Goals as goal

pub returns-in-Some : goal.returns-in-Some
returns-in-Some c = record { grows = grows_none c.args.joined.now; answers = c.in-Some.ensures }

pub returns : goal.returns
returns c = found_before c.args.joined.now c.read_ahead.new.joined c.tail_at.new.self c.args.offset c.tail_at.result c.in_ok-read_ahead.ensures c.tail_at.ensures
